-- The line writer: what it answers and what it leaves in the lent symbols (01, 'Line writer', 'Numbers of no').
-- Assumes nothing.
use Rattle.std.specs.Prelude.{◌≡◌, Bool, not, cond, ◌||◌, List, [], ◌∷◌, ◌++◌, ℕ, ltb, eqb, length, drop, Result, Ok, Err}
use Rattle.std.proofs.Math.Option.{Option, none, some}
use Rattle.std.proofs.lemmas.List.Edits.{sets}
use Rattle.line.specs.declared.write.WriteError.{WriteError}
use Rattle.line.specs.declared.write.WriteError.TheVariants.{SmallBuffer, UnknownKind, WrongLength}
use Rattle.line.specs.Kind.{kinds, carries}
use Rattle.line.specs.Frame.{Frame, symbols_of}
use Rattle.line.specs.Refusal.{Row, first_no}

-- the longest frame: 4 symbols of the set, 68 of 34 octets, EOP
abbrev pub frame_room : ℕ
frame_room = 73

-- 2 to 30 octets make a message; a set alone has none
unfoldable pub wrong_length : ℕ → ℕ → Bool
wrong_length k n = cond (carries k) (ltb n 2 || ltb 30 n) (not (eqb n 0))

abbrev pub writer_rows : Frame → ℕ → List Row
writer_rows f room =
    record { number = 12; applies = ltb room frame_room }
    ∷ record { number = 11; applies = not (ltb f.kind kinds) }
    ∷ record { number = 9; applies = wrong_length f.kind (length f.octets) }
    ∷ []

-- what the writer says, in 01's numbers
pub data Wrote : Type 0 where
  sent : ℕ → Wrote
  no : ℕ → Wrote

abbrev pub written : Result ℕ WriteError → Wrote
written (Ok n) = sent n
written (Err SmallBuffer) = no 12
written (Err UnknownKind) = no 11
written (Err WrongLength) = no 9

-- the frame's length, or the number of no
unfoldable pub wrote : Option ℕ → Frame → Wrote
wrote none f = sent (length (symbols_of f))
wrote (some n) f = no n

-- the frame and then what stood there; a refusal leaves all
unfoldable pub lent : Option ℕ → Frame → List ℕ → List ℕ
lent none f before = symbols_of f ++ drop (length (symbols_of f)) before
lent (some n) f before = before

-- a frame was put at the beginning of the symbols, and r is its length
pub record Put (f : Frame) (before : List ℕ) (r : ℕ) (after : List ℕ) : Type 0 where
  pub long : r ≡ length (symbols_of f)
  pub puts : after ≡ sets before 0 (symbols_of f)

pub record Writes (f : Frame) (before : List ℕ) (r : Result ℕ WriteError) (after : List ℕ) : Type 0 where
  pub says : written r ≡ wrote (first_no (writer_rows f (length before))) f
  pub leaves : after ≡ lent (first_no (writer_rows f (length before))) f before
