-- The frame at the record's beginning, and the tail behind its answer: what the two calls promise is what is promised.
use Rattle.line.proofs.Tails.{first_read}
use Rattle.line.proofs.read.read_first.Goals as goal

pub returns : goal.returns
returns c = first_read c.args.line _ _ _ c.read_frame-answer.ensures c.tail.ensures
