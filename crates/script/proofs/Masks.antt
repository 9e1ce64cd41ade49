-- How far a mask fits a line.
-- Assumes nothing.
use mathlib.Core.Path.{◌≡◌, refl, sym, ap, subst}
use mathlib.Core.Bool.{true, false, and-false}
use mathlib.Core.List.{List, [], ◌∷◌}
use Prim.Native.Nat.{ℕ, suc}
use native.Mathlib.Omega.{arith}
use Rattle.std.specs.List.{list_all, zip}
use lib.Dec.{T}
use lib.ListN.{length}
use Rattle.std.proofs.lemmas.Bool.{and_parts}
use Rattle.script.specs.Text.{suits, fits}

-- a mask fits only lines of its length
pub lengths_differ : (m l : List ℕ) → (length m ≡ length l → ⊥) → false ≡ fits m l
unfolding fits
lengths_differ [] [] h = absurd (h refl)
lengths_differ [] (c ∷ l) h = refl
lengths_differ (x ∷ m) [] h = refl
lengths_differ (x ∷ m) (c ∷ l) h = rw (← lengths_differ m l (λ e. h (ap suc e))) (sym (and-false (suits x c)))

pub fits_length : (m l : List ℕ) → fits m l ≡ true → length m ≡ length l
unfolding fits
fits_length [] [] e = refl
fits_length [] (c ∷ l) e = absurd (subst T (sym e) tt)
fits_length (x ∷ m) [] e = absurd (subst T (sym e) tt)
fits_length (x ∷ m) (c ∷ l) e = ap suc (fits_length m l (and_parts (suits x c) (fits m l) e).1)

-- it does so character by character
pub fits_all : (m l : List ℕ) → length m ≡ length l → fits m l ≡ list_all (λ p. suits p.0 p.1) (zip m l)
unfolding fits
fits_all [] [] e = refl
fits_all [] (c ∷ l) e = absurd (omega arith)
fits_all (x ∷ m) [] e = absurd (omega arith)
fits_all (x ∷ m) (c ∷ l) e = rw (fits_all m l (omega arith)) refl
