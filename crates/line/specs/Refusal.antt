-- Numbers of no (01, 'Numbers of no'): rows that each stand alone, and the first in their order that applies.
-- Assumes nothing.
use Rattle.std.specs.Prelude.{Bool, cond, List, [], ◌∷◌, ℕ}
use Rattle.std.proofs.Math.Option.{Option, none, some}

pub record Row : Type 0 where
  pub number : ℕ
  pub applies : Bool

unfoldable pub first_no : List Row → Option ℕ
first_no [] = none
first_no (r ∷ rs) = cond r.applies (some r.number) (first_no rs)
