-- The first of each pair.
use borrow.Author.Rules.{rules}
use Prim.Native.Nat.{ℕ}
use Rattle.fusb302.proofs.Storing.{mapped}
use Rattle.fusb302.proofs.device.Device.resets.Goals as goal

pub returns : goal.returns
returns c = mapped _ (λ (x : ℕ × ℕ). x.0) (λ f x y q k. search rules) _ _ c.map.result (0, 0) c.map.ensures.items
