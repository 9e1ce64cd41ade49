use Rattle.line.proofs.Stores.{put_more, put_all}
use Rattle.line.proofs.write.put_octets.Goals as goal

pub loop-i-preserved : goal.loop-i-preserved
loop-i-preserved c = put_more _ _ _ _ _ _ c.loop-i-test.true c.symbol.ensures c.symbol-in-loop-i.ensures c.loop-i.invariant

pub returns : goal.returns
returns c = put_all _ _ _ _ _ c.loop-i-test.false c.loop-i.invariant
