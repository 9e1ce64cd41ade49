-- The texts stand one after the other.
use Rattle.listing.proofs.Texts.{frame_line}
use Rattle.listing.proofs.print.put_frame.Goals as goal

pub returns : goal.returns
returns c = rw (← c.from.ensures, ← c.from-2.ensures) (frame_line _ _ _ _ c.requires.0 c.requires.1 c.put_decimal.ensures c.put.ensures c.put_decimal-2.ensures c.put_mark.ensures c.put_octets.ensures c.put-2.ensures)
