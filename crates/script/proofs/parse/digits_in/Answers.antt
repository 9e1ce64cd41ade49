-- As many as pass the test.
use mathlib.Core.Path.{sym, ◌∙◌}
use borrow.Author.Rules.{rules}
use borrow.Author.Tests.{tests}
use native.Mathlib.Omega.{arith}
use Rattle.std.proofs.lemmas.Iterator.{YieldsList-from_slice}
use Rattle.std.proofs.lemmas.Iterator.Search.{YieldsList-from_take_while}
use Rattle.std.proofs.lemmas.Iterator.Consumers.{count_from_yields_List}
use Rattle.std.proofs.lemmas.List.Folds.{length-prefix_len}
use Rattle.std.proofs.lemmas.List.Sums.{prefix_len-le-length}
use Rattle.script.specs.Text.{is_digit}
use Rattle.script.proofs.Numbers.{digits_are}
use Rattle.script.proofs.parse.digits_in.Goals as goal

pub returns : goal.returns
unfolding is_digit
returns c =
    let s = c.args.s.now in
    let n = count_from_yields_List c.take_while.result c.count.result c.count.ensures.ran (YieldsList-from_take_while _ is_digit (YieldsList-from_slice s (cc)) c.take_while.ensures.closure c.take_while.ensures.done (λ x b q k. search (rules, tests))) in
    let e = n ∙ length-prefix_len is_digit s in
    (e ∙ sym (digits_are s), omega (arith, e, prefix_len-le-length is_digit s))
