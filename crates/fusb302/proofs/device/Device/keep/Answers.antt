-- The packet is in Rx behind its token, and I_ALERT is set if that made it full.
use Rattle.fusb302.proofs.Hearing.{keeps_on, keeps_full}
use Rattle.fusb302.proofs.device.Device.keep.Goals as goal

pub returns-then-self-eq-CAPACITY : goal.returns-then-self-eq-CAPACITY
returns-then-self-eq-CAPACITY c = keeps_full c.args.self _ _ _ c.rx_token.ensures c.store-self.result c.args.self.registers c.store-self.ensures c.if-self-eq-CAPACITY.true c.raises.result c.raises.ensures

pub returns : goal.returns
returns c = keeps_on c.args.self _ _ _ c.rx_token.ensures c.store-self.result _ c.store-self.ensures c.if-self-eq-CAPACITY.false
