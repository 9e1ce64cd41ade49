-- Whole groups, and each a space and two digits.
use mathlib.Core.Path.{sym, ◌∙◌}
use mathlib.Core.Bool.{false}
use borrow.Author.Rules.{rules}
use borrow.Author.Tests.{tests, eqb-true, eqb-false}
use Rattle.std.proofs.lemmas.Iterator.{YieldsList-from_slice}
use Rattle.std.proofs.lemmas.Iterator.Search.{all_from_yields_List}
use Rattle.script.proofs.Octets.{is_group, whole, cut}
use Rattle.script.proofs.parse.are_octets.Goals as goal

pub returns-then-is_empty : goal.returns-then-is_empty
returns-then-is_empty c =
    whole c.args.s.now _ c.as_chunks.ensures.back_len _ (eqb-true _ _ (sym c.is_empty.ensures ∙ c.if-is_empty.true))
    (all_from_yields_List is_group _ _ _ c.all.ensures.ran (YieldsList-from_slice _ (c.iter.ensures.rest ∙ c.as_chunks.ensures.front)) (λ x b q k. search (rules, tests)))

pub returns-else-is_empty : goal.returns-else-is_empty
returns-else-is_empty c = c.if-is_empty.false ∙ cut c.args.s.now _ c.as_chunks.ensures.back_len false (eqb-false _ _ (sym c.is_empty.ensures ∙ c.if-is_empty.false))
