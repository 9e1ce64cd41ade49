-- The last digit stands behind those of a tenth of the number.
use mathlib.Core.Path.{refl, ◌∙◌}
use Rattle.std.proofs.Common.{◌-◌, ◌/◌, arith}
use Rattle.text.proofs.Texts.{few, stop, last_digit, other_digits, same}
use Rattle.text.proofs.Pages.{on}
use Rattle.text.proofs.page.Page.+lay_decimal.Goals as goal

pub returns-then-most-eq0 : goal.returns-then-most-eq0
returns-then-most-eq0 t c = on refl (stop _ _ _ _ c.if-most-eq0.true)

pub returns-then-n-lt10 : goal.returns-then-n-lt10
returns-then-n-lt10 t c =
    on c.lay.ensures.same (last_digit _ _ _ _ c.if-most-eq0.false c.if-n-lt10.true c.lay.ensures.puts)

pub lay-requires-2 : goal.lay-requires-2
lay-requires-2 t c =
    let a = c.args in
    let p = c.lay_decimal.ensures.puts in
    omega (arith, few (a.most - 1) (a.n / 10), p.next, same p)

pub returns : goal.returns
returns t c =
    on (c.lay-2.ensures.same ∙ c.lay_decimal.ensures.same)
    (other_digits _ _ _ _ c.if-most-eq0.false c.if-n-lt10.false c.lay_decimal.ensures.puts c.lay-2.ensures.puts)
