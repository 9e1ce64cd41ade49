-- Each line leaves a device that can be asked; so many are taken and no more.
use mathlib.Core.Path.{◌≡◌}
use Prim.Native.Nat.{◌+◌}
use Rattle.fusb302.specs.View.{Asks}
use Rattle.run.proofs.Bench.part.Given as goal

abbrev pub invariant-loop : goal.invariant-loop
invariant-loop g l = Asks l.device × (l.self.number ≡ l.initial.self.number + l.counter)
