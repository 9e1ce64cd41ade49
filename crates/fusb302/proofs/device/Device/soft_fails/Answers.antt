-- The request is over and the bits set; a Hard Reset is sent if that was latched.
use Rattle.fusb302.proofs.Sending.{fits_reset}
use Rattle.fusb302.proofs.Becoming.{over_noted}
use Rattle.fusb302.proofs.Waiting.{soft_ends, soft_hard}
use Rattle.fusb302.proofs.device.Device.soft_fails.Goals as goal

pub put-count-requires : goal.put-count-requires
put-count-requires c = fits_reset

pub returns-then-request : goal.returns-then-request
returns-then-request c =
    let h = over_noted c.args.self c.over.result c.shows.result c.raises_a-failed.result _ _ c.over.ensures c.shows.ensures c.raises_a-failed.ensures in
    rw c.done.ensures (soft_hard c.args.self c.raises_a-failed.result _ _ h c.if-request.true c.raises_a.result c.raises_a.ensures _ _ c.put-count.ensures)

pub returns : goal.returns
returns c =
    let h = over_noted c.args.self c.over.result c.shows.result c.raises_a-failed.result _ _ c.over.ensures c.shows.ensures c.raises_a-failed.ensures in
    rw c.done-2.ensures (soft_ends c.args.self c.raises_a-failed.result _ _ h c.if-request.false)
