-- The bits are set; the request goes on with the Soft_Reset if that was latched, else it is over.
use Rattle.std.proofs.lemmas.Bool.{not-true, not-false}
use Rattle.fusb302.proofs.Becoming.{over_noted}
use Rattle.fusb302.proofs.Waiting.{message_ends, follows_nothing, follows_on}
use Rattle.fusb302.proofs.device.Device.message_fails.Goals as goal

pub returns-then-not-request : goal.returns-then-not-request
returns-then-not-request c =
    let h = over_noted c.args.self c.over.result c.shows.result c.raises_a-failed.result _ _ c.over.ensures c.shows.ensures c.raises_a-failed.ensures in
    rw c.done.ensures (message_ends c.args.self c.raises_a-failed.result c.args.request _ _ h (not-true _ c.if-not-request.true))

pub returns-in_default : goal.returns-in_default
returns-in_default c =
    let h = over_noted c.args.self c.over.result c.shows.result c.raises_a-failed.result _ _ c.over.ensures c.shows.ensures c.raises_a-failed.ensures in
    rw c.done-in_default.ensures (follows_nothing c.args.self c.raises_a-failed.result c.args.request _ _ c.message.ensures h (not-false _ c.if-not-request.false) c.in_default.is)

pub returns : goal.returns
returns c =
    let h = over_noted c.args.self c.over.result c.shows.result c.raises_a-failed.result _ _ c.over.ensures c.shows.ensures c.raises_a-failed.ensures in
    rw c.done-2.ensures (follows_on c.args.self c.raises_a-failed.result c.args.request _ _ c.message.ensures h (not-false _ c.if-not-request.false) _ c.in-Some.is c.requests.result c.requests.ensures _ _ (rw c.soft_reset.ensures at c.put_control-count.ensures))
