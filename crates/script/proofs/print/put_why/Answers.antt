-- The texts stand one after the other.
use Rattle.script.proofs.Texts.{why_line, why_room}
use Rattle.script.proofs.print.put_why.Goals as goal

pub put_reason-requires : goal.put_reason-requires
put_reason-requires c = why_room _ c.requires c.put_decimal.ensures c.put.ensures

pub returns : goal.returns
returns c = why_line _ _ c.requires c.put_decimal.ensures c.put.ensures c.put_reason.ensures c.put-2.ensures
