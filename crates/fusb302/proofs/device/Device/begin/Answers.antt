-- The request is as latched, and the message that the queue spells leaves.
use Rattle.fusb302.proofs.Writing.{begins}
use Rattle.fusb302.proofs.device.Device.begin.Goals as goal

pub returns : goal.returns
returns c = rw c.done.ensures (begins c.args.self _ _ _ c.retries_of.ensures c.has.ensures c.has-2.ensures c.hides_fails.result c.requests.result c.hides_fails.ensures c.requests.ensures _ _ _ c.put_message-count.ensures)
