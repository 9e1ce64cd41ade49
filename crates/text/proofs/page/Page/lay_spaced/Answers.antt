-- What was put and what is still to be put are the whole run, three characters to a symbol.
use mathlib.Core.Path.{◌∙◌}
use Rattle.text.proofs.Texts.{goes_on, ends}
use Rattle.text.proofs.Pages.{on}
use Rattle.text.proofs.page.Page.lay_spaced.Goals as goal

pub loop-octet-preserved : goal.loop-octet-preserved
loop-octet-preserved c =
    let s = c.lay_symbol.ensures in
    let i = c.loop-octet.invariant in
    record { same = s.same ∙ i.same; run = goes_on _ _ _ _ _ _ i.run _ _ c.loop-octet-test.true s.puts }

pub returns : goal.returns
returns c = on c.loop-octet.invariant.same (ends _ _ _ _ _ _ c.loop-octet.invariant.run c.loop-octet-test.false)
