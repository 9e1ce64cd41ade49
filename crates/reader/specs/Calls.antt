-- A record read by calls, one after the other: by a cursor and by a reader (01, 'Line reader').
-- Assumes nothing.
use Rattle.std.specs.Prelude.{◌≡◌, List, [], ◌∷◌, ℕ, ◌+◌, ◌≤◌, length, Result}
use Rattle.line.specs.declared.read.FoundFrame.{FoundFrame}
use Rattle.line.specs.declared.read.ReadError.{ReadError}
use Rattle.line.specs.Frame.{drawn}
use Rattle.line.specs.Read.{ReadFrame, First, frame}
use Rattle.line.specs.Reader.{octet_room, said, behind, Tells, Reads}
use Rattle.reader.specs.declared.Reader.{Reader}
use Rattle.reader.specs.Step.{Nexts}

-- what a call gives: the answer, and the lent octets after it
pub record Returned : Type 0 where
  pub answer : Result FoundFrame ReadError
  pub octets : List ℕ

-- read_frame's promise for each lent octets in turn, the cursor always at the place that the answer before led to
abbrev pub ByCursor : List ℕ → ℕ → List (List ℕ) → List Returned → ℕ → Type 0
ByCursor line at [] [] end = end ≡ at
ByCursor line at [] (g ∷ gs) end = ⊥
ByCursor line at (b ∷ bs) [] end = ⊥
ByCursor line at (b ∷ bs) (g ∷ gs) end =
    Reads line at b g.answer g.octets × ByCursor line (behind at (said g.answer)) bs gs end

-- next's promise for each lent octets in turn, each of the reader that the one before left
pub data ByReader : Reader → List (List ℕ) → List Returned → Reader → Type 0 where
  stays : {h : Reader} → ByReader h [] [] h
  goes : {h m e : Reader} {b : List ℕ} {bs : List (List ℕ)} {g : Returned} {gs : List Returned}
      → Nexts h b g.answer g.octets m → ByReader m bs gs e → ByReader h (b ∷ bs) (g ∷ gs) e

-- room for any frame
abbrev pub AllRoom : List (List ℕ) → Type 0
AllRoom [] = Unit {0}
AllRoom (b ∷ bs) = (octet_room ≤ length b) × AllRoom bs

-- the calls tell of these frames in turn, each at the place behind the one before, and from then on of what ends the walk
abbrev pub AllTold : ℕ → List ReadFrame → First → List (List ℕ) → List Returned → ℕ → Type 0
AllTold at rs f [] [] end = end ≡ at
AllTold at rs f [] (g ∷ gs) end = ⊥
AllTold at rs f (b ∷ bs) [] end = ⊥
AllTold at [] f (b ∷ bs) (g ∷ gs) end = Tells at f b g.answer g.octets × AllTold at [] f bs gs end
AllTold at (r ∷ rs) f (b ∷ bs) (g ∷ gs) end =
    Tells at (frame r) b g.answer g.octets × AllTold (at + length (drawn r.shape)) rs f bs gs end
