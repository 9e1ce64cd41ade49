-- The kind is off, the CRC wrong, or the packet is accepted.
use mathlib.Core.Path.{sym, ◌∙◌}
use Rattle.fusb302.proofs.Hearing.{hears_off, hears_wrong, hears_right}
use Rattle.fusb302.proofs.device.Device.hear.Goals as goal

pub returns-then-right : goal.returns-then-right
returns-then-right c = hears_right c.args.self _ _ _ (sym c.kind_on.ensures ∙ c.if-kind_on.true) (sym c.right.ensures ∙ c.if-right.true) _ _ c.accept.ensures

pub returns-then-kind_on : goal.returns-then-kind_on
returns-then-kind_on c = rw c.done.ensures (hears_wrong c.args.self _ _ _ _ (sym c.kind_on.ensures ∙ c.if-kind_on.true) (sym c.right.ensures ∙ c.if-right.false))

pub returns : goal.returns
returns c = rw c.done-2.ensures (hears_off c.args.self _ _ _ (sym c.kind_on.ensures ∙ c.if-kind_on.false))
