-- The thresholds that the voltage is above are counted.
use mathlib.Core.Path.{◌≡◌, ◌∙◌}
use borrow.Author.Rules.{rules}
use borrow.Author.Tests.{tests}
use Rattle.std.proofs.lemmas.Iterator.{YieldsList-from_slice}
use Rattle.std.proofs.lemmas.Iterator.Consumers.{YieldsList-at, YieldsList-from_filter, count_from_yields_List}
use Rattle.machine.specs.Pins.{above, levels, steps}
use Rattle.fusb302.specs.declared.pins.Millivolts.{Millivolts}
use Rattle.fusb302.proofs.Sensing.{thresholds, counted, at_most}
use Rattle.fusb302.proofs.pins.steps.Goals as goal

pub returns : goal.returns
returns c =
    let v = c.args.voltage.0 in
    let is : c.count.result ≡ steps levels v =
    count_from_yields_List c.filter.result c.count.result c.count.ensures.ran
    (YieldsList-from_filter _ (λ (t : Millivolts). above t.0 v) (YieldsList-at c.filter.ensures.source (YieldsList-from_slice thresholds c.iter.ensures.rest))
    c.filter.ensures.closure (λ x b q k. search (rules, tests)))
    ∙ counted thresholds v in
    (is, rw is (at_most levels v))
