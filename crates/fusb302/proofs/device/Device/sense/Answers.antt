-- The voltages are other ones, and what that changes is reported.
use native.Mathlib.Omega.{arith}
use Rattle.fusb302.proofs.Sensing.{sense_taken}
use Rattle.fusb302.proofs.device.Device.sense.Goals as goal

pub returns : goal.returns
returns c =
    rw c.done.ensures
    (sense_taken c.args.self c.requires _ c.if-symbols-lt-FRAME_ROOM.false c.args.self.registers c.args.cc1 c.args.cc2 c.args.vbus (omega (arith, c.well_formed.1.0)) (omega (arith, c.well_formed.1.1.0)) (omega (arith, c.well_formed.1.1.1.0)) c.readings-before.result c.readings-before.ensures c.reports.result c.reports.ensures)
