-- The nibbles are counted; what stands behind them decides.
use borrow.Author.Rules.{rules}
use Rattle.line.proofs.Reading.{body_short, body_misfit, body_whole}
use Rattle.line.proofs.read.read_message.Goals as goal

pub returns-in_default : goal.returns-in_default
returns-in_default c = body_short _ _ _ _ _ _ c.nibbles-n.ensures (search rules)

pub returns-then-may_end : goal.returns-then-may_end
returns-then-may_end c = body_whole _ _ _ _ _ _ c.nibbles-n.ensures (search rules) _ (search rules) _ c.may_end.ensures c.if-may_end.true _ _ c.read_octets.ensures

pub returns : goal.returns
returns c = body_misfit _ _ _ _ _ _ c.nibbles-n.ensures (search rules) _ (search rules) _ c.may_end.ensures c.if-may_end.false
