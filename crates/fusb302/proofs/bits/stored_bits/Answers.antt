-- The second of the pair at that place.
use Rattle.fusb302.proofs.Storing.{stored_at}
use Rattle.fusb302.proofs.bits.stored_bits.Goals as goal

pub returns : goal.returns
returns c = stored_at _
