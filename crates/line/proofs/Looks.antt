-- What it is to look for one of the things that are drawn as symbols: what each answer says of the record.
-- Assumes nothing.
use mathlib.Core.Path.{◌≡◌, refl, ap, ◌∙◌, subst}
use mathlib.Core.List.{List, [], ◌∷◌, ◌++◌}
use Prim.Native.Nat.{ℕ, suc, ◌<◌}
use native.Mathlib.Omega.{arith}
use lib.ListN.{length, take}
use lib.Seq.{take-length}
use Rattle.line.specs.Read.{Look, found, short, misfit}

pub empty : (l : List ℕ) → length l ≡ 0 → l ≡ []
empty [] e = refl
empty (x ∷ l) e = absurd (omega arith)

-- the things of A that are right, drawn
module _ {A : Type 0} (Right : A → Type 0) (draw : A → List ℕ) where
  -- l begins a thing drawn
  pub record Begun (l : List ℕ) : Type 0 where
    pub thing : A
    pub right : Right thing
    pub rest : List ℕ
    pub is : l ++ rest ≡ draw thing

  -- l begins a thing drawn and is not all of it
  pub record Part (l : List ℕ) : Type 0 where
    pub begun : Begun l
    pub more : 0 < length begun.rest

  -- the record ends where the part does
  pub whole_part : (l : List ℕ) (p : ℕ) → p ≡ length l → Part (take p l) → Part l
  whole_part l p e = subst Part (ap (λ (n : ℕ). take n l) e ∙ take-length l)

  -- l begins with the whole of a
  pub record Stands (l : List ℕ) (a : A) : Type 0 where
    pub right : Right a
    pub rest : List ℕ
    pub is : l ≡ draw a ++ rest

  -- the symbols before p begin a thing, and those up to the one at p begin none
  pub record Ends (l : List ℕ) (p : ℕ) : Type 0 where
    pub within : p < length l
    pub part : Part (take p l)
    pub no_more : Begun (take (suc p) l) → ⊥

  -- what an answer says of the record l
  abbrev pub Says : List ℕ → Look A → Type 0
  Says l (found a) = Stands l a
  Says l (short p) = Part l × (p ≡ length l)
  Says l (misfit p) = Ends l p
