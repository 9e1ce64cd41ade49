-- The texts stand one after the other.
use Rattle.script.proofs.Texts.{outcome}
use Rattle.script.proofs.print.put_outcome.Goals as goal

pub returns : goal.returns
returns c = outcome _ _ _ c.requires.0 c.requires.1 c.put_reply.ensures c.put.ensures c.level.ensures c.put-2.ensures c.put_octets.ensures c.put-3.ensures
