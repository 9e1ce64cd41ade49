-- The line reader: what it answers, what it leaves in the lent octets, and the rest of the record (01, 'Line reader', 'Numbers of no'; 02, A4).
-- Assumes nothing.
use Rattle.std.specs.Prelude.{◌≡◌, Bool, cond, List, ◌++◌, ℕ, ◌+◌, min, ltb, length, drop, Result, Ok, Err}
use Rattle.std.specs.Borrow.{Bor}
use Rattle.line.specs.declared.read.FoundFrame.{FoundFrame}
use Rattle.line.specs.declared.read.ReadError.{ReadError}
use Rattle.line.specs.declared.read.ReadError.TheVariants.{SmallBuffer, NoFrame, TooShort, WrongCrc}
use Rattle.line.specs.declared.read.FirstRead.{FirstRead}
use Rattle.line.specs.Numbered.{kind_number}
use Rattle.line.specs.Frame.{drawn}
use Rattle.line.specs.Read.{First, frame, wrong_crc, too_short, no_frame, first}

-- the most octets a frame has, CRC included
abbrev pub octet_room : ℕ
octet_room = 34

-- what the reader says, in 01's numbers: kind, whether its set was exact, count of octets with CRC and next place; or a number of no, 13 to 15 with a place
pub data Said : Type 0 where
  was_read : ℕ → Bool → ℕ → ℕ → Said
  said_no : ℕ → Said
  no_at : ℕ → ℕ → Said

abbrev pub said : Result FoundFrame ReadError → Said
said (Ok f) = was_read (kind_number f.kind) f.exact f.count f.next.at
said (Err SmallBuffer) = said_no 12
said (Err (NoFrame p)) = no_at 13 p
said (Err (TooShort p)) = no_at 14 p
said (Err (WrongCrc p)) = no_at 15 p

-- what it says of the record from `at` on
unfoldable pub says_of : ℕ → First → Said
says_of at (frame r) = was_read r.shape.kind r.exact (length r.shape.octets) (at + length (drawn r.shape))
says_of at (wrong_crc p) = no_at 15 p
says_of at (too_short p) = no_at 14 p
says_of at (no_frame p) = no_at 13 p

-- the octets with CRC and then what stood there; where there is no frame all stays
unfoldable pub filled : First → List ℕ → List ℕ
filled (frame r) before = r.shape.octets ++ drop (length r.shape.octets) before
filled (wrong_crc p) before = before
filled (too_short p) before = before
filled (no_frame p) before = before

-- the answer r and the octets left tell this of the record from `at` on
pub record Tells (at : ℕ) (f : First) (before : List ℕ) (r : Result FoundFrame ReadError) (after : List ℕ) : Type 0 where
  pub says : said r ≡ says_of at f
  pub leaves : after ≡ filled f before

pub record Reads (line : List ℕ) (at : ℕ) (before : List ℕ) (r : Result FoundFrame ReadError) (after : List ℕ) : Type 0 where
  pub says : said r ≡ cond (ltb (length before) octet_room) (said_no 12) (says_of at (first (drop at line)))
  pub leaves : after ≡ cond (ltb (length before) octet_room) before (filled (first (drop at line)) before)

-- ---- the rest of the record

-- the place after a read at `at`: behind a frame, and the same where there is none
unfoldable pub behind : ℕ → Said → ℕ
behind at (was_read k exact n p) = p
behind at (said_no n) = at
behind at (no_at n p) = at

-- r is the lent slice from n on and no copy of it: the same memory, so many symbols further, at most at its end
pub record IsTail (line : Bor (List ℕ)) (n : ℕ) (r : Bor (List ℕ)) : Type 0 where
  pub block : r.ref_ptr.0 ≡ line.ref_ptr.0
  pub offset : r.ref_ptr.1 ≡ line.ref_ptr.1 + min n (length line.now)
  pub holds : r.now ≡ drop n line.now

-- how many symbols the first frame has; none where there is no frame
unfoldable pub span : First → ℕ
span (frame r) = length (drawn r.shape)
span (wrong_crc p) = 0
span (too_short p) = 0
span (no_frame p) = 0

-- read_frame at the record's beginning, and the rest behind the first frame: the whole record where none is answered
pub record ReadsFirst (line : Bor (List ℕ)) (before : List ℕ) (r : FirstRead) (after : List ℕ) : Type 0 where
  pub reads : Reads line.now 0 before r.answer after
  pub leaves : IsTail line (cond (ltb (length before) octet_room) 0 (span (first line.now))) r.rest
