-- What a match on a number knows in its last arm: none of the keys before it is the number.
-- Assumes nothing.
use mathlib.Core.Path.{◌≡◌, refl}
use mathlib.Core.List.{List, [], ◌∷◌}
use Prim.Native.Nat.{ℕ}
use borrow.Author.Tests.{ne_eqb}
use lib.ListN.{length}
use Rattle.line.specs.Symbol.{place_of}

-- a match collects what it knows key after key, on top of N
abbrev pub None : Type 0 → List ℕ → ℕ → Type 0
None N [] x = N
None N (k ∷ ks) x = None (N × (x ≡ k → ⊥)) ks x

-- what was known before the keys
pub known : (N : Type 0) (ks : List ℕ) (x : ℕ) → None N ks x → N
known N [] x h = h
known N (k ∷ ks) x h = (known (N × (x ≡ k → ⊥)) ks x h).0

-- the number stands nowhere in the list of keys
pub absent : (N : Type 0) (ks : List ℕ) (x : ℕ) → None N ks x → place_of x ks ≡ length ks
unfolding place_of
absent N [] x h = refl
absent N (k ∷ ks) x h =
    simp (ne_eqb x k (known (N × (x ≡ k → ⊥)) ks x h).1, absent (N × (x ≡ k → ⊥)) ks x h)
