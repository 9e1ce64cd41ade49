-- Carried out at the place that the address has; each other way out needs no answer.
use Rattle.fusb302.proofs.Writing.{write_stored, write_at_port}
use Rattle.fusb302.proofs.device.Device.write.Goals as goal

pub returns-in-Stored : goal.returns-in-Stored
returns-in-Stored c =
    write_stored _ _ _ _ _ _ c.in-Stored.cell c.write_register.ensures _ c.in-Stored.is c.in-Some-place_of.ensures _ c.in-Some.ensures.cases

pub returns-in-Port : goal.returns-in-Port
returns-in-Port c =
    write_at_port _ _ _ _ _ _ c.write_port.ensures _ c.in-Port.is c.in-Some-place_of.ensures _ c.in-Some.ensures.cases
