-- The wait runs out.
use mathlib.Core.Path.{refl}
use Rattle.fusb302.proofs.Waiting.{pass_expires}
use Rattle.fusb302.proofs.device.Device.pass.Goals as goal

pub returns : goal.returns
returns c = pass_expires _ c.requires _ _ _ c.in-Some.ensures.cases c.if-microseconds-gt-LONGEST_PASS.false _ c.in-Some-request.is (rw c.from.ensures at c.if-waited-lt-WAIT.false) _ _ _ (rw c.from.ensures refl) c.expire.ensures
