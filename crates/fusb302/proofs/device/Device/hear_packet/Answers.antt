-- Refused in the order of the numbers, or heard.
use native.Mathlib.Omega.{arith}
use Rattle.fusb302.proofs.Queueing.{sop_four}
use Rattle.fusb302.proofs.Hearing.{packet_small, packet_refused, packet_heard}
use Rattle.fusb302.proofs.device.Device.hear_packet.Goals as goal

pub returns-in_default : goal.returns-in_default
returns-in_default c = rw c.refuse.ensures (packet_small _ c.requires _ _ _ c.in_default.ensures.cases)

pub returns-in-Err : goal.returns-in-Err
returns-in-Err c = rw c.refuse-in-Err.ensures (packet_refused _ c.requires _ _ _ _ c.in-Some.ensures.cases _ c.in-Err.ensures)

pub returns-in-Ok : goal.returns-in-Ok
returns-in-Ok c =
    let packet = c.in-Ok.packet in
    let is = c.in-Ok.ensures in
    packet_heard _ c.requires _ _ c.args.octets.now _ c.in-Some.ensures.cases (sop_four _ _ is.0) (rw is.1 at packet.least) (rw is.1 at packet.most)
    (λ i. omega (arith, c.type_inv.octets i)) _ _ (rw (is.0, is.1) at c.hear.ensures)
