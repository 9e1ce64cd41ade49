-- Why no reply leaves: the packet is refused, or the first of the other rows says.
-- Assumes nothing.
use mathlib.Core.Path.{◌≡◌, ◌∙◌}
use mathlib.Core.Bool.{Bool, true, false, cond, ◌||◌}
use mathlib.Core.List.{List}
use mathlib.Core.Option.{Option, none, some}
use Prim.Native.Nat.{ℕ, ◌≤◌}
use borrow.Author.Tests.{le-ltb}
use lib.Dec.{ltb}
use lib.ListN.{length, drop}
use Rattle.machine.specs.State.{State}
use Rattle.machine.specs.Refusals.{no11, no9}
use Rattle.machine.specs.Why.{Reason, refused, causes, first_cause, why}
use Rattle.fusb302.specs.Messages.{packet_no}

-- ---- refused, or heard

module _ (s : State) (k : ℕ) (m : List ℕ) where
  pub refused_by : (n : ℕ) → some n ≡ packet_no k m → some (refused n) ≡ why s k m
  unfolding packet_no why first_cause no11 no9
  refused_by n e = go (ltb 4 k) (ltb (length m) 6 || ltb 34 (length m)) _ e
    where
      go : (a b : Bool) (o : Option Reason) → some n ≡ cond a (some 11) (cond b (some 9) none)
          → some (refused n) ≡ cond a (some (refused 11)) (cond b (some (refused 9)) o)
      go true b o e = cc
      go false true o e = cc
      go false false o e = cc

  pub taken : k ≤ 4 → 6 ≤ length m → length m ≤ 34 → (o : Option Reason) → o ≡ first_cause (drop 2 (causes s k m)) → o ≡ why s k m
  unfolding why first_cause no11 no9
  taken sop lo hi o e = e ∙ simp (le-ltb 4 k sop, le-ltb (length m) 6 lo, le-ltb 34 (length m) hi)
