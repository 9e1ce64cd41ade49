-- Nothing is told after the event.
use mathlib.Core.Path.{refl}
use Rattle.turn.specs.Turn.{TellsOutcome}
use Rattle.turn.proofs.ReasonsTells.tell_outcome.Goals as goal

pub returns-clause-tells : goal.returns-clause-tells
unfolding TellsOutcome
returns-clause-tells c = (refl, refl)
