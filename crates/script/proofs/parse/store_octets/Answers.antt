-- Each group's octet goes to the next place.
use mathlib.Core.Path.{◌∙◌}
use mathlib.Core.List.{[]}
use Rattle.script.proofs.Octets.{stores, stored}
use Rattle.script.proofs.parse.store_octets.Goals as goal

pub loop-n-preserved : goal.loop-n-preserved
loop-n-preserved c = rw (c.loop-n.invariant, c.octet_of.ensures) (stores c.args.octets.now c.as_chunks.result.0.now c.loop-n.n [] c.loop-n-test.true)

pub returns : goal.returns
returns c =
    let all = stored c.args.s.now c.args.octets.now _ _ c.as_chunks.ensures.front c.loop-n-test.false in
    (all.0, c.loop-n.invariant ∙ all.1)
