-- Digits read back as the number that they were made of.
-- Assumes nothing.
use mathlib.Core.Path.{◌≡◌, refl, ◌∙◌}
use mathlib.Core.Bool.{Bool, true, false, cond}
use mathlib.Core.List.{List, [], ◌∷◌, ◌++◌}
use Prim.Native.Nat.{ℕ, zero, suc, ◌+◌, ◌*◌, ◌-◌, ◌/◌, ◌%◌, ◌^◌, ◌<◌}
use native.Mathlib.Nat.{div-add-mod, div-lt_iff_lt-mul, pow-succ'}
use native.Mathlib.Omega.{arith}
use lib.Dec.{ltb}
use Rattle.text.specs.Put.{decimal_of, onto, value_of}
use Rattle.text.specs.Theorems.{DecimalReadsBack}

onto_last : (l : List ℕ) (v c : ℕ) → onto v (l ++ (c ∷ [])) ≡ 10 * onto v l + (c - 48)
unfolding onto
onto_last [] v c = refl
onto_last (d ∷ l) v c = onto_last l (10 * v + (d - 48)) c

by_digits : (k n : ℕ) → (n / 10 < 10 ^ k → value_of (decimal_of k (n / 10)) ≡ n / 10) → n < 10 ^ suc k → value_of (decimal_of (suc k) n) ≡ n
unfolding decimal_of value_of onto
by_digits k n tenth h = go (ltb n 10)
  where
    below : n / 10 < 10 ^ k
    below = (div-lt_iff_lt-mul {k = 10} {x = n} {y = 10 ^ k} (omega arith)).1 (omega (arith, pow-succ' 10 k))

    go : (t : Bool) → onto 0 (cond t ((48 + n) ∷ []) (decimal_of k (n / 10) ++ ((48 + n % 10) ∷ []))) ≡ n
    go true = omega arith
    go false = onto_last (decimal_of k (n / 10)) 0 (48 + n % 10) ∙ omega (arith, tenth below, div-add-mod n 10)

pub decimal_reads_back : DecimalReadsBack
unfolding decimal_of value_of onto
decimal_reads_back zero n h = omega arith
decimal_reads_back (suc k) n h = by_digits k n (decimal_reads_back k (n / 10)) h
