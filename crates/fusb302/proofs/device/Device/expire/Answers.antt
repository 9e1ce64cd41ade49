-- It is sent again while retries are left; else the Soft_Reset failed, or the message.
use mathlib.Core.Path.{ap}
use Rattle.machine.specs.Requests.{fails}
use Rattle.fusb302.specs.View.{phase_of}
use Rattle.fusb302.proofs.Waiting.{expires_again, expires_last}
use Rattle.fusb302.proofs.device.Device.expire.Goals as goal

pub returns-then-request : goal.returns-then-request
returns-then-request c =
    rw c.done.ensures
    (expires_again c.args.self _ _ c.if-request.true c.requests.result c.requests.ensures _ _ c.put_flight-count.ensures)

pub returns-in-Some : goal.returns-in-Some
unfolding fails
returns-in-Some c = expires_last c.args.self _ _ _ _ c.if-request.false _ (ap phase_of c.in-Some.is) c.soft_fails.ensures

pub returns-in-None : goal.returns-in-None
unfolding fails
returns-in-None c = expires_last c.args.self _ _ _ _ c.if-request.false _ (ap phase_of c.in-None.is) c.message_fails.ensures
