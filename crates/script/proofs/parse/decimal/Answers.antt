-- Each digit passed goes to the value, and 7 of them stay below ten million.
use mathlib.Core.Path.{sym, ◌∙◌}
use native.Mathlib.Omega.{arith}
use Rattle.script.proofs.Numbers.{read, few, digit_from, stray, goes_on}
use Rattle.script.proofs.parse.decimal.Goals as goal

pub returns-in_err-v : goal.returns-in_err-v
returns-in_err-v c =
    record {
      says = c.from_residual.ensures ∙ sym (stray _ _ _ c.loop-c.invariant c.loop-c-test.true (rw c.from.ensures at c.in_err-v.ensures.cases));
      few = rw c.from_residual.ensures tt;
    }

pub loop-c-preserved : goal.loop-c-preserved
loop-c-preserved c = goes_on _ _ _ c.loop-c.invariant c.loop-c-test.true _ (digit_from _ _ (rw c.from.ensures at c.in_ok-v.ensures.cases) (omega (arith, c.in_ok-v.ensures.value.0, c.in_ok-v.ensures.value.1)))

pub returns : goal.returns
returns c = record { says = read _ _ _ c.loop-c.invariant c.loop-c-test.false; few = few _ _ _ c.loop-c.invariant }
