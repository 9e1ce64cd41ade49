-- A step of a reader: the cursor's read at its place, and where it stands then (01, 'Line reader').
-- Assumes nothing.
use Rattle.std.specs.Prelude.{◌≡◌, List, ℕ, drop, Result}
use Rattle.std.specs.Borrow.{Bor}
use Rattle.line.specs.declared.read.FoundFrame.{FoundFrame}
use Rattle.line.specs.declared.read.ReadError.{ReadError}
use Rattle.line.specs.Reader.{said, behind, Reads, IsTail}
use Rattle.reader.specs.declared.Reader.{Reader}

-- the promise of a step from `at`: what read_frame promises of a cursor there, and the place that it leads to
pub record Steps (line : List ℕ) (at : ℕ) (before : List ℕ) (r : Result FoundFrame ReadError) (after : List ℕ) (to : ℕ) : Type 0 where
  pub reads : Reads line at before r after
  pub moves : to ≡ behind at (said r)

-- a new reader holds the lent slice itself, and stands at its beginning
pub record Starts (line : Bor (List ℕ)) (r : Reader) : Type 0 where
  pub holds : r.line ≡ line
  pub begins : r.at.at ≡ 0

-- the reader h becomes e by such a step over its record
pub record Nexts (h : Reader) (before : List ℕ) (r : Result FoundFrame ReadError) (after : List ℕ) (e : Reader) : Type 0 where
  pub holds : e.line ≡ h.line
  pub steps : Steps h.line.now h.at.at before r after e.at.at

-- r is the reader's place
abbrev pub IsPlace : Reader → ℕ → Type 0
IsPlace h r = r ≡ h.at.at

-- the record from the reader's place on
abbrev pub unread : Reader → List ℕ
unread h = drop h.at.at h.line.now

-- r is the slice that the reader holds, from its place on
abbrev pub IsUnread : Reader → Bor (List ℕ) → Type 0
IsUnread h r = IsTail h.line h.at.at r
