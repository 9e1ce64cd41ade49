-- The request is dropped, the queue empty, and the bits are set.
use Rattle.machine.specs.Requests.{hard_reset_heard}
use Rattle.fusb302.proofs.Answering.{reset_small, reset_heard}
use Rattle.fusb302.proofs.Becoming.{over_noted}
use Rattle.fusb302.proofs.device.Device.hear_hard_reset.Goals as goal

pub returns-then-symbols-lt-FRAME_ROOM : goal.returns-then-symbols-lt-FRAME_ROOM
returns-then-symbols-lt-FRAME_ROOM c = rw c.refuse.ensures (reset_small _ c.requires _ c.if-symbols-lt-FRAME_ROOM.true)

pub returns : goal.returns
unfolding hard_reset_heard
returns c =
    let h = over_noted c.args.self c.over.result c.shows.result c.raises_a.result _ _ c.over.ensures c.shows.ensures c.raises_a.ensures in
    rw c.done.ensures (reset_heard _ c.requires _ c.if-symbols-lt-FRAME_ROOM.false c.raises_a.result h.arranged h.state)
