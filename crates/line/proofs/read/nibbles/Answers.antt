use mathlib.Core.Path.{◌≡◌, ap, ◌∙◌}
use mathlib.Core.List.{List}
use borrow.Author.Rules.{rules}
use borrow.Author.Tests.{tests}
use Prim.Native.Nat.{ℕ}
use lib.ListN.{length, take}
use Rattle.std.specs.Prelude.{min, take_while}
use Rattle.std.proofs.lemmas.List.{take_min}
use Rattle.std.proofs.lemmas.Iterator.{YieldsList-from_slice}
use Rattle.std.proofs.lemmas.Iterator.Consumers.{YieldsList-at, count_from_yields_List}
use Rattle.std.proofs.lemmas.Iterator.Search.{YieldsList-from_take_while}
use Rattle.line.specs.Symbol.{is_nibble}
use Rattle.line.proofs.Reading.{counted}
use Rattle.line.proofs.read.nibbles.Goals as goal

pub returns : goal.returns
returns c =
    let body = c.args.body.now in
    let most : c.min.result ≡ min 68 (length body) = search rules in
    count_from_yields_List c.take_while.result c.count.result c.count.ensures.ran
    (YieldsList-from_take_while _ is_nibble (YieldsList-at c.take_while.ensures.source (YieldsList-from_slice (take c.min.result body) c.iter.ensures.rest))
    c.take_while.ensures.closure c.take_while.ensures.done (λ x b q k. search (rules, tests)))
    ∙ ap (λ (n : ℕ). length (take_while is_nibble (take n body))) most
    ∙ ap (λ (l : List ℕ). length (take_while is_nibble l)) (take_min 68 body)
    ∙ counted 68 body
