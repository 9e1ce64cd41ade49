-- Of a queue that spells nothing, nothing is sent.
use Rattle.fusb302.proofs.Sending.{sends_none}
use Rattle.fusb302.proofs.send.put_message.Goals as goal

pub returns-in_default : goal.returns-in_default
returns-in_default c = rw (← c.in_default.ensures) (sends_none _)
