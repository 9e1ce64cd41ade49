-- Nothing is told before the event.
use mathlib.Core.Path.{refl}
use Rattle.turn.specs.Turn.{TellsReason}
use Rattle.turn.proofs.OutcomesTells.tell_reason.Goals as goal

pub returns-clause-tells : goal.returns-clause-tells
unfolding TellsReason
returns-clause-tells c = (refl, refl)
