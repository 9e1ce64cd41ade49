-- No row refuses a whole frame where there is room for any, so that it is written.
use native.Mathlib.Omega.{arith}
use Rattle.fusb302.proofs.Sending.{put_said, put_sent}
use Rattle.fusb302.proofs.send.put.Goals as goal

pub unwrap-requires : goal.unwrap-requires
unwrap-requires c = rw (put_said _ _ _ _ _ c.requires (omega (arith, c.told-frame)) (rw c.from.ensures at c.write_frame.ensures))

pub returns : goal.returns
returns c = put_sent _ _ _ _ _ c.requires (omega (arith, c.told-frame)) (rw c.from.ensures at c.write_frame.ensures) _ c.unwrap.ensures
