-- The octet that is shown, on the device with its interrupts cleared; each other way out needs no answer.
use mathlib.Core.Path.{refl}
use Rattle.fusb302.proofs.Answering.{read_shown}
use Rattle.fusb302.proofs.device.Device.read.Goals as goal

pub returns-in-Shown : goal.returns-in-Shown
returns-in-Shown c =
    rw c.give-in-Shown.ensures
    (read_shown _ c.requires _ c.if-symbols-lt-FRAME_ROOM.false _ _ c.in-Some.ensures c.in-Shown.is _ _ c.shown-octet.ensures (rw c.cleared-self.ensures refl))
