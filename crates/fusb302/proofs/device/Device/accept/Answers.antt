-- What is noted is the state that is stored in, if there is room.
use mathlib.Core.Path.{sym, ◌∙◌}
use Rattle.fusb302.proofs.Hearing.{accepts_stores, accepts_full}
use Rattle.fusb302.proofs.device.Device.accept.Goals as goal

pub returns-then-fits : goal.returns-then-fits
returns-then-fits c = accepts_stores c.args.self c.noted-noted.result _ _ c.noted-noted.ensures (sym c.fits.ensures ∙ c.if-fits.true) _ _ _ c.store.ensures

pub returns : goal.returns
returns c = rw c.done.ensures (accepts_full c.args.self c.noted-noted.result _ _ c.noted-noted.ensures (sym c.fits.ensures ∙ c.if-fits.false) c.raises.result c.raises.ensures _)
