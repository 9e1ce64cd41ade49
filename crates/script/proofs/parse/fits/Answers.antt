-- Mask and line are equally long, and each character suits.
use mathlib.Core.Path.{sym, ◌∙◌}
use borrow.Author.Rules.{rules}
use borrow.Author.Tests.{tests, ne_eqb}
use Prim.Native.Nat.{ℕ}
use Rattle.std.proofs.lemmas.Iterator.{YieldsList-from_slice, YieldsList-from_zip}
use Rattle.std.proofs.lemmas.Iterator.Search.{all_from_yields_List}
use Rattle.script.specs.Text.{suits}
use Rattle.script.proofs.Masks.{lengths_differ, fits_all}
use Rattle.script.proofs.parse.fits.Goals as goal

pub returns-then-mask-line : goal.returns-then-mask-line
returns-then-mask-line c =
    all_from_yields_List (λ (p : ℕ × ℕ). suits p.0 p.1) c.all.new.self _ _ c.all.ensures.ran (YieldsList-from_zip (YieldsList-from_slice c.args.mask.now (cc)) (YieldsList-from_slice c.args.line.now (cc))) (λ x b q k. search (rules, tests))
    ∙ sym (fits_all _ _ c.if-mask-line.true)

pub returns-else-mask-line : goal.returns-else-mask-line
returns-else-mask-line c = ne_eqb _ _ c.if-mask-line.false ∙ lengths_differ _ _ c.if-mask-line.false
