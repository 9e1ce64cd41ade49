-- The first kind whose set the record begins with, and the kinds that agree in three places.
use mathlib.Core.Path.{refl, sym, ap, ◌∙◌}
use mathlib.Core.List.{[], ◌∷◌}
use borrow.Author.Rules.{rules}
use borrow.Author.Tests.{tests}
use Rattle.std.specs.Prelude.{Option}
use Rattle.std.specs.Option.{option_map}
use Rattle.std.proofs.lemmas.Iterator.{YieldsList-from_slice}
use Rattle.std.proofs.lemmas.Iterator.Consumers.{YieldsList-at, YieldsList-from_copied, YieldsList-from_filter, YieldsList-turn, YieldsList-end}
use Rattle.std.proofs.lemmas.Iterator.Search.{find_from_yields_List}
use Rattle.line.specs.declared.kind.Kind.{Kind}
use Rattle.line.proofs.Numbers.{in_order}
use Rattle.line.proofs.Matching.{begins, in_places, few_symbols, is_exact, one_near, none_near, several_near}
use Rattle.line.proofs.sets.set_at.Goals as goal

pub returns-then-line-lt4 : goal.returns-then-line-lt4
returns-then-line-lt4 c = few_symbols _ c.if-line-lt4.true

pub returns-in-Some : goal.returns-in-Some
returns-in-Some c =
    is_exact _ c.if-line-lt4.false _
    (sym (find_from_yields_List (begins c.args.line.now) _ _ c.find-exact.result c.find-exact.ensures.ran (YieldsList-from_copied (YieldsList-at c.copied.ensures.source (YieldsList-from_slice in_order c.iter.ensures.rest))) (λ x b q k. search (rules, tests))) ∙ ap (λ (o : Option Kind). option_map (λ (x : Kind). x) o) c.in-Some.is)

pub returns-in-Some-None : goal.returns-in-Some-None
returns-in-Some-None c =
    one_near _ c.if-line-lt4.false
    (sym (find_from_yields_List (begins c.args.line.now) _ _ c.find-exact.result c.find-exact.ensures.ran (YieldsList-from_copied (YieldsList-at c.copied.ensures.source (YieldsList-from_slice in_order c.iter.ensures.rest))) (λ x b q k. search (rules, tests))) ∙ ap (λ (o : Option Kind). option_map (λ (x : Kind). x) o) c.in_default.is)
    c.in-Some-None.kind
    (YieldsList-end (YieldsList-from_filter _ (in_places 3 c.args.line.now) (YieldsList-at c.filter-near.ensures.source (YieldsList-from_copied (YieldsList-at c.copied-2.ensures.source (YieldsList-from_slice in_order c.iter-2.ensures.rest)))) c.filter-near.ensures.closure (λ x b q k. search (rules, tests))) (c.in-Some-None.kind ∷ []) c.next.new.self (c.next.new.self, c.in-Some-None.ensures.steps, refl) _ _ c.in-Some-None.is-1 c.next-2.ensures.steps).0

pub returns-in_default-2 : goal.returns-in_default-2
returns-in_default-2 c =
    several_near _ c.if-line-lt4.false
    (sym (find_from_yields_List (begins c.args.line.now) _ _ c.find-exact.result c.find-exact.ensures.ran (YieldsList-from_copied (YieldsList-at c.copied.ensures.source (YieldsList-from_slice in_order c.iter.ensures.rest))) (λ x b q k. search (rules, tests))) ∙ ap (λ (o : Option Kind). option_map (λ (x : Kind). x) o) c.in_default.is)
    (YieldsList-turn (YieldsList-from_filter _ (in_places 3 c.args.line.now) (YieldsList-at c.filter-near.ensures.source (YieldsList-from_copied (YieldsList-at c.copied-2.ensures.source (YieldsList-from_slice in_order c.iter-2.ensures.rest)))) c.filter-near.ensures.closure (λ x b q k. search (rules, tests))) (c.in_default-2.field-0-0 ∷ []) c.next.new.self (c.next.new.self, c.in_default-2.ensures.steps, refl) _ _ _ c.in_default-2.is-1 c.next-2.ensures.steps).0

pub returns-in_default-2-2 : goal.returns-in_default-2-2
returns-in_default-2-2 c =
    none_near _ c.if-line-lt4.false
    (sym (find_from_yields_List (begins c.args.line.now) _ _ c.find-exact.result c.find-exact.ensures.ran (YieldsList-from_copied (YieldsList-at c.copied.ensures.source (YieldsList-from_slice in_order c.iter.ensures.rest))) (λ x b q k. search (rules, tests))) ∙ ap (λ (o : Option Kind). option_map (λ (x : Kind). x) o) c.in_default.is)
    (YieldsList-end (YieldsList-from_filter _ (in_places 3 c.args.line.now) (YieldsList-at c.filter-near.ensures.source (YieldsList-from_copied (YieldsList-at c.copied-2.ensures.source (YieldsList-from_slice in_order c.iter-2.ensures.rest)))) c.filter-near.ensures.closure (λ x b q k. search (rules, tests))) [] c.filter-near.result refl _ _ c.in_default-2.is-0 c.next.ensures.steps).0
