-- Telling of outcomes is the bench's turn.
use Rattle.turn.proofs.Turning.{outcomes_taken}
use Rattle.turn.proofs.turn.Goals as goal

pub returns-clause-takes : goal.returns-clause-takes
returns-clause-takes c = outcomes_taken _ _ _ _ _ _ _ _ c.tell.ensures.takes
