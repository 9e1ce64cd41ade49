-- What holds of a reader and of its walk; proofs/ has the proof of each statement.
-- Assumes nothing.
use Rattle.std.specs.Prelude.{◌≡◌, List, [], ◌++◌, ◌↔◌, ◌⊎◌, ℕ, Result}
use Rattle.std.specs.Borrow.{Bor}
use Rattle.line.specs.declared.read.FoundFrame.{FoundFrame}
use Rattle.line.specs.declared.read.ReadError.{ReadError}
use Rattle.line.specs.Frame.{Frame, AllWhole, joined}
use Rattle.line.specs.Read.{First, wrong_crc, too_short, no_frame, first}
use Rattle.line.specs.Theorems.{SameSlice}
use Rattle.reader.specs.declared.Moved.{Moved}
use Rattle.reader.specs.declared.Reader.{Reader}
use Rattle.reader.specs.Step.{Steps, Starts, Nexts, IsPlace, unread, IsUnread}
use Rattle.reader.specs.Walk.{onward, walk, drawn_all, read_exact, AllExact, Covers}
use Rattle.reader.specs.Calls.{Returned, ByCursor, ByReader, AllRoom, AllTold}

-- ---- 1. The walk over any record: on behind each frame, to the first place where there is none

abbrev pub WalkGoesOn : Type 0
WalkGoesOn = (line : List ℕ) → walk line ≡ onward line (first line) walk

-- 13, 14 or 15
pub record NoMore (f : First) : Type 0 where
  pub place : ℕ
  pub is : (f ≡ no_frame place) ⊎ ((f ≡ too_short place) ⊎ (f ≡ wrong_crc place))

abbrev pub WalkEnds : Type 0
WalkEnds = (line : List ℕ) → NoMore (walk line).ended × ((walk line).ended ≡ first (walk line).rest)

-- what is read and what is left is the record, in the frames' order
abbrev pub WalkCovers : Type 0
WalkCovers = (line : List ℕ) → Covers (walk line).frames (walk line).rest line

-- to the symbol, where all sets are exact
abbrev pub WalkKeeps : Type 0
WalkKeeps = (line : List ℕ) → AllExact (walk line).frames → drawn_all (walk line).frames ++ (walk line).rest ≡ line

-- ---- 2. The walk over whole frames gives these frames, all as exact, and ends with 14, place 0, with nothing left

abbrev pub WalksFrames : Type 0
WalksFrames = (fs : List Frame) → AllWhole fs → walk (joined fs) ≡ record { frames = read_exact fs; rest = []; ended = too_short 0 }

-- ---- 3. A reader and a cursor give the same answers and octets at the same places

abbrev pub SameWalk : Type 0
SameWalk =
    (h e : Reader) (bs : List (List ℕ)) (gs : List Returned)
    → ByReader h bs gs e ↔ ((e.line ≡ h.line) × ByCursor h.line.now h.at.at bs gs e.at.at)

-- ---- 4. With room for a frame, a reader's calls tell of the walk from its place

abbrev pub ReaderWalks : Type 0
ReaderWalks =
    (h e : Reader) (bs : List (List ℕ)) (gs : List Returned) → AllRoom bs → ByReader h bs gs e
    → AllTold h.at.at (walk (unread h)).frames (walk (unread h)).ended bs gs e.at.at

-- so a new reader reads whole frames back, as exact, and then answers 14, place 0
abbrev pub ReadsAllBack : Type 0
ReadsAllBack =
    (line : Bor (List ℕ)) (h e : Reader) (fs : List Frame) (bs : List (List ℕ)) (gs : List Returned)
    → Starts line h → AllWhole fs → line.now ≡ joined fs → AllRoom bs → ByReader h bs gs e
    → AllTold 0 (read_exact fs) (too_short 0) bs gs e.at.at

-- ---- 5. No second outcome

abbrev pub OneNew : Type 0
OneNew = (line : Bor (List ℕ)) (r s : Reader) → Starts line r → Starts line s → r ≡ s

abbrev pub OneNext : Type 0
OneNext =
    (h : Reader) (before : List ℕ) (r s : Result FoundFrame ReadError) (a b : List ℕ) (e f : Reader)
    → Nexts h before r a e → Nexts h before s b f → (r ≡ s) × (a ≡ b) × (e ≡ f)

abbrev pub OnePlace : Type 0
OnePlace = (h : Reader) (r s : ℕ) → IsPlace h r → IsPlace h s → r ≡ s

abbrev pub OneUnread : Type 0
OneUnread = (h : Reader) (r s : Bor (List ℕ)) → IsUnread h r → IsUnread h s → SameSlice r s

abbrev pub OneMove : Type 0
OneMove =
    (line : List ℕ) (at : ℕ) (before : List ℕ) (r s : Moved) (a b : List ℕ)
    → Steps line at before r.answer a r.at.at → Steps line at before s.answer b s.at.at → (r ≡ s) × (a ≡ b)
