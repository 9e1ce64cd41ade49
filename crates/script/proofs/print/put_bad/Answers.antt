-- The texts stand one after the other.
use Rattle.script.proofs.Texts.{bad_line}
use Rattle.script.proofs.print.put_bad.Goals as goal

pub returns : goal.returns
returns c = bad_line _ c.requires c.put_text.ensures c.put_decimal.ensures c.put.ensures
