-- The texts stand one after the other.
use Rattle.listing.proofs.Texts.{no_line}
use Rattle.listing.proofs.print.put_no.Goals as goal

pub returns : goal.returns
returns c = no_line _ _ c.requires c.put_text.ensures c.put_decimal.ensures c.put.ensures c.put_decimal-2.ensures c.put-2.ensures
