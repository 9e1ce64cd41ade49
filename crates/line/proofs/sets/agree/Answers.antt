-- Place after place; no more are counted than a set has.
use mathlib.Core.Path.{sym, ap₂, ◌∙◌}
use mathlib.Core.Logic.{⊎_elim}
use mathlib.Core.List.{List}
use Prim.Native.Nat.{ℕ, ◌+◌, ◌≤◌}
use native.Mathlib.Omega.{arith}
use borrow.Author.Rules.{rules}
use Rattle.line.specs.Kind.{set_of}
use Rattle.line.specs.Numbered.{kind_number}
use Rattle.line.specs.Read.{agree}
use Rattle.line.proofs.Numbers.{kind_below}
use Rattle.line.proofs.Starts.{set_length}
use Rattle.line.proofs.Agreeing.{agree_most}
use Rattle.line.proofs.Matching.{compared, few_counted, set_ends, line_ends}
use Rattle.line.proofs.sets.agree.Goals as goal

pub loop-a-init : goal.loop-a-init
loop-a-init c = search rules

pub overflow_add-count : goal.overflow_add-count
overflow_add-count c =
    let k = kind_number c.args.kind in
    let few : c.loop-a.count ≤ 4 = omega (arith, c.loop-a.invariant, agree_most (set_of k) c.args.line.now, set_length k (kind_below c.args.kind)) in
    record { fits = omega (arith, few_counted _ _ c.loop-a.count c.from-count.result few c.from-count.ensures) }

pub loop-a-preserved : goal.loop-a-preserved
loop-a-preserved c =
    let next = c.in-Some.ensures.steps in
    sym (compared _ _ _ _ c.loop-a.count c.from-count.result c.from-count.ensures)
    ∙ ap₂ (λ (x y : List ℕ). c.loop-a.count + agree x y) (sym next.0) (sym next.1)
    ∙ c.loop-a.invariant

pub returns : goal.returns
returns c =
    let a = c.loop-a.a-iterator.a.rest.now in
    let b = c.loop-a.a-iterator.b.rest.now in
    omega (arith, c.loop-a.invariant, ⊎_elim (λ z. set_ends a b z.1.0) (λ z. line_ends a b z.1.0) c.in-None.ensures.steps)
