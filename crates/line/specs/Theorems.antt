-- What holds of the line code; proofs/ has the proof of each statement.
-- Assumes nothing.
use Rattle.std.specs.Prelude.{◌≡◌, Bool, List, [], ◌++◌, ◌↔◌, ◌⊎◌, ℕ, ◌<◌, ◌≤◌, length, take, drop, get_or, set, Result, Ok}
use Rattle.std.specs.Borrow.{Bor}
use Rattle.line.specs.declared.write.WriteError.{WriteError}
use Rattle.line.specs.declared.read.FoundFrame.{FoundFrame}
use Rattle.line.specs.declared.read.ReadError.{ReadError}
use Rattle.line.specs.declared.read.FirstRead.{FirstRead}
use Rattle.line.specs.Kind.{kinds, set_of}
use Rattle.line.specs.Numbered.{kind_number}
use Rattle.line.specs.Crc.{IsCrc, SaysCrcRight}
use Rattle.line.specs.Frame.{Frame, Whole, AllWhole, Shape, drawn, sealed, symbols_of, joined}
use Rattle.line.specs.Write.{frame_room, written, Writes}
use Rattle.line.specs.Read.{exact_frame, frame, wrong_crc, too_short, no_frame, first}
use Rattle.line.specs.Taken.{Exactly, Nearly, TakenAs, Untaken, Doubtful, doubtful_sets, Among, straight, AsIfExact, marked}
use Rattle.line.specs.Reader.{octet_room, said, Tells, Reads, IsTail, ReadsFirst}
use Rattle.line.specs.Place.{Cut, Longest, Intact, Spoilt}

-- ---- A message's frame has 17 to 73 symbols, a set alone 4

abbrev pub FrameLengths : Type 0
FrameLengths =
    (f : Frame) → Whole f → (length (symbols_of f) ≡ 4) ⊎ ((17 ≤ length (symbols_of f)) × (length (symbols_of f) ≤ frame_room))

-- ---- 1. What was written is read back, as exact, whatever follows it, and the rest is what follows it

abbrev pub ReadsBack : Type 0
ReadsBack = (f : Frame) (x : List ℕ) → Whole f → first (symbols_of f ++ x) ≡ frame (exact_frame (sealed f))

-- the symbols of the frame that the reader answered, and then the rest, are the record from the cursor on with the set that was taken
abbrev pub LeavesRest : Type 0
LeavesRest =
    (line rest : Bor (List ℕ)) (at : ℕ) (found : FoundFrame) (before after : List ℕ)
    → Reads line.now at before (Ok found) after → IsTail line found.next.at rest
    → TakenAs (drop at line.now) (kind_number found.kind) found.exact
    × (drawn (record { kind = kind_number found.kind; octets = take found.count after }) ++ rest.now ≡ straight (kind_number found.kind) (drop at line.now))

-- in one call, given room: the frame with its octets and CRC, and what follows it
abbrev pub FirstReadBack : Type 0
FirstReadBack =
    (f : Frame) (x : List ℕ) (line : Bor (List ℕ)) (before : List ℕ) (r : FirstRead) (after : List ℕ)
    → Whole f → line.now ≡ symbols_of f ++ x → octet_room ≤ length before → ReadsFirst line before r after
    → Tells 0 (frame (exact_frame (sealed f))) before r.answer after × (r.rest.now ≡ x)

-- ---- 2. The reader's answer on every record, exactly when

-- after a set that is taken: as if it had been exact, the mark aside
abbrev pub ReadsAsExact : Type 0
ReadsAsExact = (line : List ℕ) (k : ℕ) (exact : Bool) → TakenAs line k exact → first line ≡ marked exact (first (straight k line))

-- and with an exact set the record stays
abbrev pub ExactStays : Type 0
ExactStays = (line : List ℕ) (k : ℕ) → Exactly line k → straight k line ≡ line

-- so 01's words stand for exact sets
abbrev pub ExactFrameExactly : Type 0
ExactFrameExactly = (line : List ℕ) (s : Shape) → (first line ≡ frame (exact_frame s)) ↔ Intact line s

abbrev pub FrameExactly : Type 0
FrameExactly =
    (line : List ℕ) (s : Shape) (exact : Bool)
    → (first line ≡ frame (record { shape = s; exact = exact })) ↔ (TakenAs line s.kind exact × Intact (straight s.kind line) s)

abbrev pub WrongCrcExactly : Type 0
WrongCrcExactly = (line : List ℕ) (p : ℕ) → (first line ≡ wrong_crc p) ↔ AsIfExact (λ l. Spoilt l p) line

abbrev pub TooShortExactly : Type 0
TooShortExactly =
    (line : List ℕ) (p : ℕ) → (first line ≡ too_short p) ↔ (((length line < 4) ⊎ AsIfExact Cut line) × (p ≡ length line))

-- no whole frame, none with a wrong CRC, no part of one; p is as far as it begins one
pub record Unframed (p : ℕ) (l : List ℕ) : Type 0 where
  pub unintact : (s : Shape) → Intact l s → ⊥
  pub unspoilt : (q : ℕ) → Spoilt l q → ⊥
  pub uncut : Cut l → ⊥
  pub longest : Longest l p

abbrev pub NoFrameExactly : Type 0
NoFrameExactly = (line : List ℕ) (p : ℕ) → (first line ≡ no_frame p) ↔ ((Untaken line × (p ≡ 0)) ⊎ AsIfExact (Unframed p) line)

-- ---- 3. No frame is a proper beginning of another

abbrev pub NoPrefix : Type 0
NoPrefix = (f g : Frame) (x : List ℕ) → Whole f → Whole g → symbols_of f ++ x ≡ symbols_of g → (f ≡ g) × (x ≡ [])

-- ---- 4. A record of whole frames divides in one way alone

abbrev pub UniqueDivision : Type 0
UniqueDivision = (fs gs : List Frame) → AllWhole fs → AllWhole gs → joined fs ≡ joined gs → fs ≡ gs

-- ---- 5. Three K-codes of four (02, A4)

-- a record agrees in three places with several kinds exactly with one of these, and is then refused
abbrev pub DoubtfulExactly : Type 0
DoubtfulExactly = (line : List ℕ) → 4 ≤ length line → Doubtful line ↔ Among (take 4 line) doubtful_sets

abbrev pub DoubtfulRefused : Type 0
DoubtfulRefused = (line : List ℕ) → Doubtful line → Untaken line × (first line ≡ no_frame 0)

-- one changed symbol in a set: still taken as that kind or else doubtful, so never as another
abbrev pub OneChanged : Type 0
OneChanged =
    (k i symbol : ℕ) (x : List ℕ) → k < kinds → i < 4 → (symbol ≡ get_or (set_of k) i 0 → ⊥)
    → Nearly (set (set_of k) i symbol ++ x) k ⊎ Doubtful (set (set_of k) i symbol ++ x)

-- ---- 6. No second outcome; each answer means one thing

abbrev pub OneTaken : Type 0
OneTaken = (line : List ℕ) (j k : ℕ) (a b : Bool) → TakenAs line j a → TakenAs line k b → (j ≡ k) × (a ≡ b)

abbrev pub OneMeaningWritten : Type 0
OneMeaningWritten = (r s : Result ℕ WriteError) → written r ≡ written s → r ≡ s

abbrev pub OneMeaningSaid : Type 0
OneMeaningSaid = (r s : Result FoundFrame ReadError) → said r ≡ said s → r ≡ s

abbrev pub OneCrc : Type 0
OneCrc = (l : List ℕ) (r s : ℕ) → IsCrc l r → IsCrc l s → r ≡ s

abbrev pub OneRight : Type 0
OneRight = (l : List ℕ) (r s : Bool) → SaysCrcRight l r → SaysCrcRight l s → r ≡ s

-- the same symbols at the same place in memory: all of a slice but the name that proofs know it by
pub record SameSlice (r s : Bor (List ℕ)) : Type 0 where
  pub place : r.ref_ptr ≡ s.ref_ptr
  pub symbols : r.now ≡ s.now

abbrev pub OneRest : Type 0
OneRest = (line : Bor (List ℕ)) (at : ℕ) (r s : Bor (List ℕ)) → IsTail line at r → IsTail line at s → SameSlice r s

abbrev pub OneWriting : Type 0
OneWriting =
    (f : Frame) (before : List ℕ) (r s : Result ℕ WriteError) (a b : List ℕ)
    → Writes f before r a → Writes f before s b → (r ≡ s) × (a ≡ b)

abbrev pub OneReading : Type 0
OneReading =
    (line : List ℕ) (at : ℕ) (before : List ℕ) (r s : Result FoundFrame ReadError) (a b : List ℕ)
    → Reads line at before r a → Reads line at before s b → (r ≡ s) × (a ≡ b)

abbrev pub OneFirstReading : Type 0
OneFirstReading =
    (line : Bor (List ℕ)) (before : List ℕ) (r s : FirstRead) (a b : List ℕ)
    → ReadsFirst line before r a → ReadsFirst line before s b → (r.answer ≡ s.answer) × SameSlice r.rest s.rest × (a ≡ b)
