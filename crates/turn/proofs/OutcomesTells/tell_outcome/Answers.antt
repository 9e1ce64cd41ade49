-- The outcome is what is told.
use Rattle.script.proofs.Numbered.{prints_reply}
use Rattle.turn.specs.Turn.{TellsOutcome}
use Rattle.turn.proofs.OutcomesTells.tell_outcome.Goals as goal

pub returns-clause-tells : goal.returns-clause-tells
unfolding TellsOutcome
returns-clause-tells c = prints_reply _ _ _ _ _ _ _ c.print_outcome.ensures.prints
