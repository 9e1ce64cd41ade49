-- The packet is kept; a GoodCRC leaves if one is due.
use mathlib.Core.Path.{sym, ◌∙◌}
use Rattle.fusb302.proofs.Hearing.{stores_only, stores_replies}
use Rattle.fusb302.proofs.device.Device.store.Goals as goal

pub returns-then-replies_to : goal.returns-then-replies_to
returns-then-replies_to c = rw c.done.ensures (stores_replies c.args.self _ _ c.keep-kept.result c.keep-kept.ensures _ (sym c.replies_to.ensures ∙ c.if-replies_to.true) c.raises_b.result c.raises_b.ensures _ _ (rw c.message_id.ensures.0 at c.put_control-count.ensures))

pub returns : goal.returns
returns c = rw c.done-2.ensures (stores_only c.args.self _ _ c.keep-kept.result c.keep-kept.ensures _ (sym c.replies_to.ensures ∙ c.if-replies_to.false))
