-- The set that the queue begins with, looked for among the SOP kinds' sets.
use mathlib.Core.Path.{◌≡◌}
use borrow.Author.Rules.{rules}
use borrow.Author.Tests.{tests}
use native.Mathlib.Omega.{arith}
use Rattle.std.specs.Option.{option_map}
use Rattle.std.proofs.lemmas.Iterator.{YieldsList-from_slice}
use Rattle.std.proofs.lemmas.Iterator.Search.{find_from_yields_List}
use Rattle.fusb302.proofs.Queueing.{begins, sets, kind_found}
use Rattle.fusb302.proofs.queue.Queue.kind.Goals as goal

pub returns : goal.returns
returns c =
    let found = find_from_yields_List (begins c.args.self.octets) _ _ c.find.result c.find.ensures.ran (YieldsList-from_slice sets c.iter.ensures.rest) (λ x b q k. search (rules, tests)) in
    let is : c.map.result ≡ option_map (λ x. x.now.1) c.find.result = search (rules, c.map.ensures.cases) in
    rw is (kind_found (λ x. x.now) c.find.result c.args.self.octets (omega (arith, c.args.self.size)) found)
