-- A packet is asked about; of any other line there is nothing to tell.
use Rattle.script.proofs.Numbered.{prints_reason}
use Rattle.turn.specs.Turn.{TellsReason}
use Rattle.turn.proofs.Turning.{tells_nothing, tells_why}
use Rattle.turn.proofs.ReasonsTells.tell_reason.Goals as goal

pub returns-in-Packet-clause-tells : goal.returns-in-Packet-clause-tells
unfolding TellsReason
returns-in-Packet-clause-tells c =
    let a = c.args in
    tells_why _ a.given.line a.given.octets.now _ _ _ c.why.result c.in-Packet.is c.why.ensures (prints_reason _ _ _ _ _ _ c.print_why.ensures.prints)

pub returns-in_default-clause-tells : goal.returns-in_default-clause-tells
unfolding TellsReason
returns-in_default-clause-tells c = let a = c.args in tells_nothing _ a.given.line a.given.octets.now _ _ c.in_default.not-Packet
