use mathlib.Core.Path.{◌∙◌}
use Prim.Native.Nat.{◌+◌, ◌*◌}
use native.Mathlib.Omega.{arith}
use Rattle.line.proofs.Stores.{get_more, get_all}
use Rattle.line.proofs.Reading.{pairs_within, nibble_at, length_pairs, all_gathered}
use Rattle.line.proofs.read.get_octets.Goals as goal

pub bounds-body-i : goal.bounds-body-i
bounds-body-i c = omega (arith, pairs_within _ _ c.requires)

pub bounds-body-i-in-loop-i : goal.bounds-body-i-in-loop-i
bounds-body-i-in-loop-i c = omega (arith, pairs_within _ _ c.requires)

pub octet-requires : goal.octet-requires
octet-requires c = (nibble_at c.args.body.now (2 * c.loop-i.i) (omega arith), nibble_at c.args.body.now (2 * c.loop-i.i + 1) (omega arith))

pub loop-i-preserved : goal.loop-i-preserved
loop-i-preserved c = get_more _ _ _ _ _ _ c.loop-i-test.true (pairs_within _ _ c.requires) c.octet.ensures c.loop-i.invariant

pub returns : goal.returns
returns c = get_all _ _ _ _ _ c.loop-i-test.false (pairs_within _ _ c.requires) c.loop-i.invariant ∙ all_gathered _ _ (length_pairs _ _ c.requires)
