-- A line of less than two characters has no form, and the voltages lend no octets.
use mathlib.Core.Path.{sym, ◌∙◌}
use Rattle.script.proofs.Lines.{tiny, is_sense}
use Rattle.script.proofs.parse.lettered.Goals as goal

pub returns-in_err-head : goal.returns-in_err-head
returns-in_err-head c = rw c.from_residual.ensures (tiny _ _ c.in_err-head.ensures.cases)

pub returns-then-fits-3 : goal.returns-then-fits-3
returns-then-fits-3 c =
    is_sense _ _ _ _ c.in_ok-head.ensures.cases.1 c.in_ok-head.ensures.cases.2 (sym c.fits.ensures ∙ c.if-fits.false) (sym c.fits-2.ensures ∙ c.if-fits-2.false) _ (sym c.fits-3.ensures ∙ c.if-fits-3.true) c.voltages.ensures
