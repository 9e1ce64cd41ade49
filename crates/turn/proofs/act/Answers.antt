-- The step, and what is told of it.
use borrow.Author.Rules.{rules}
use Rattle.turn.proofs.Turning.{acts_done}
use Rattle.turn.proofs.act.Goals as goal

pub returns-clause-acts : goal.returns-clause-acts
returns-clause-acts g c =
    let a = c.args in
    acts_done _ a.device _ _ _ _ c.requires.1 _ _ c.serve-outcome.new.symbols c.serve-outcome.result (search rules) (search rules) _
    c.int_n.ensures _ _ _ c.serve-outcome.ensures c.tell_reason.ensures.tells c.tell_outcome.ensures.tells
