-- A rule of the numbers below a bound, shown at all of them by one test that antt computes.
-- Assumes nothing.
use mathlib.Core.Path.{sym, subst}
use mathlib.Core.Bool.{Bool, true, false, ◌&&◌}
use Prim.Native.Nat.{ℕ, zero, suc, ◌<◌}
use native.Mathlib.Omega.{arith}
use native.Mathlib.Decide.{ℕ_discrete}
use lib.Dec.{T}

-- g passes at all numbers below n
abbrev pub all : (ℕ → Bool) → ℕ → Bool
all g zero = true
all g (suc n) = g n && all g n

pub head_of : (a b : Bool) → T (a && b) → T a
head_of true b t = tt
head_of false b t = absurd t

pub tail_of : (a b : Bool) → T (a && b) → T b
tail_of true b t = t
tail_of false b t = absurd t

pub at : (g : ℕ → Bool) (n : ℕ) → T (all g n) → (k : ℕ) → k < n → T (g k)
at g zero t k h = absurd (omega arith)
at g (suc n) t k h =
    elim (ℕ_discrete k n) [
      | yes e ↦ subst (λ (x : ℕ). T (g x)) (sym e) (head_of (g n) (all g n) t)
      | no e ↦ at g n (tail_of (g n) (all g n) t) k (omega arith)
    ]
