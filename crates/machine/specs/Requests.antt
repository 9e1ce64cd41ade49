-- Requests: start, waits, retries, automatic resets, and what ends them (01, 'Start' and what follows it).
-- Assumes nothing.
use Rattle.std.specs.Prelude.{Bool, cond, ◌||◌, List, [], ◌∷◌, ℕ, suc, ◌+◌, ◌-◌, ◌/◌, ltb, eqb}
use Rattle.std.proofs.Math.Option.{Option, none, some}
use Rattle.std.specs.Int.Bits.{bit_and}
use Rattle.line.specs.Frame.{Frame}
use Rattle.machine.specs.Registers.{switches1, control3, has, TXCC, AUTO_RETRY, AUTO_SOFTRESET, AUTO_HARDRESET}
use Rattle.machine.specs.State.{Phase, message, soft_reset, Request, State, reg, with_tx, with_request, shows, hides, raises_a}
use Rattle.machine.specs.Status.{SOFTFAIL, RETRYFAIL, HARDRST, I_SOFTFAIL, I_RETRYFAIL, I_HARDSENT, I_TXSENT, I_HARDRST}
use Rattle.machine.specs.Queue.{spelt, is_some}
use Rattle.machine.specs.Headers.{Soft_Reset, control}

-- what an accepted event does: the state after it, and the frames that leave
pub record Effect : Type 0 where
  pub state : State
  pub frames : List Frame

abbrev pub silent : State → Effect
silent s = record { state = s; frames = [] }

abbrev pub sends : Frame → State → Effect
sends f s = record { state = s; frames = f ∷ [] }

abbrev pub sends_if : Option Frame → State → Effect
sends_if none s = silent s
sends_if (some f) s = sends f s

abbrev pub opened : State → Bool
opened s = is_some s.request

-- exactly one of Switches1's bits 1:0
unfoldable pub driver_on : ℕ → Bool
driver_on sw = eqb (bit_and sw TXCC) 1 || eqb (bit_and sw TXCC) 2

abbrev pub hard_reset_frame : Frame
hard_reset_frame = record { kind = 5; octets = [] }

-- the Soft_Reset that follows a message which failed: on that message's kind (02, A2), MessageID 0, by the latched Switches1
abbrev pub soft_reset_of : ℕ → Request → Frame
soft_reset_of k q = control Soft_Reset k q.switches1 0

-- the frame that a request sends and sends again, in each phase
unfoldable pub flight_in : Phase → Request → List ℕ → Option Frame
flight_in message q tx = spelt tx
flight_in (soft_reset k) q tx = some (soft_reset_of k q)

abbrev pub flight : State → Request → Option Frame
flight s q = flight_in q.phase q s.tx

-- ---- start

-- how often a message is sent again: Control3 bits 2:1 if AUTO_RETRY is 1
unfoldable pub retries_of : ℕ → ℕ
retries_of c3 = cond (has AUTO_RETRY c3) (bit_and (c3 / 2) 3) 0

unfoldable pub latched : State → Request
latched s =
    record {
      switches1 = reg switches1 s;
      retries = retries_of (reg control3 s);
      soft = has AUTO_SOFTRESET (reg control3 s);
      hard = has AUTO_HARDRESET (reg control3 s);
      phase = message;
      sent = 0;
      waited = 0;
    }

abbrev pub fail_bits : ℕ
fail_bits = SOFTFAIL + RETRYFAIL

unfoldable pub start : State → Effect
start s = sends_if (spelt s.tx) (with_request (some (latched s)) (hides fail_bits s))

-- ---- ends

-- a request, or none, is over and the queue empty
abbrev pub over : State → State
over s = with_tx [] (with_request none s)

-- by the GoodCRC that was awaited
abbrev pub acknowledged : State → State
acknowledged s = raises_a I_TXSENT (over s)

unfoldable pub send_hard_reset : State → Effect
send_hard_reset s = sends hard_reset_frame (raises_a I_HARDSENT (hides fail_bits (over s)))

unfoldable pub hard_reset_heard : State → State
hard_reset_heard s = raises_a I_HARDRST (shows HARDRST (over s))

-- ---- waits

abbrev pub wait : ℕ
wait = 1000

-- the same request with another phase, count of retries and wait
abbrev pub goes_on : Phase → ℕ → ℕ → Request → Request
goes_on p n w q =
    record { switches1 = q.switches1; retries = q.retries; soft = q.soft; hard = q.hard; phase = p; sent = n; waited = w }

-- the Soft_Reset follows, on the kind of the message that the queue spelt (02, A2), and w microseconds of its wait have passed;
-- nothing follows where the queue spelt none, which no good state has
abbrev pub soft_reset_follows : ℕ → Request → Option Frame → State → Effect
soft_reset_follows w q none s = silent s
soft_reset_follows w q (some f) s = sends (soft_reset_of f.kind q) (with_request (some (goes_on (soft_reset f.kind) 0 w q)) s)

-- the message failed: then the Soft_Reset, if AUTO_SOFTRESET was latched
unfoldable pub message_fails : ℕ → Request → State → Effect
message_fails w q s =
    let t = raises_a I_RETRYFAIL (shows RETRYFAIL (over s)) in
    cond q.soft (soft_reset_follows w q (spelt s.tx) t) (silent t)

-- the Soft_Reset failed: then a Hard Reset, if AUTO_HARDRESET was latched
unfoldable pub soft_fails : Request → State → Effect
soft_fails q s =
    let t = raises_a I_SOFTFAIL (shows SOFTFAIL (over s)) in
    cond q.hard (sends hard_reset_frame (raises_a I_HARDSENT t)) (silent t)

unfoldable pub fails : Phase → ℕ → Request → State → Effect
fails message w q s = message_fails w q s
fails (soft_reset k) w q s = soft_fails q s

-- a wait ran out, and w microseconds of the next have passed
unfoldable pub expires : ℕ → Request → State → Effect
expires w q s =
    cond (ltb q.sent q.retries)
    (sends_if (flight s q) (with_request (some (goes_on q.phase (suc q.sent) w q)) s))
    (fails q.phase w q s)

-- so many microseconds in all since the wait began
unfoldable pub elapses : ℕ → Request → State → Effect
elapses w q s =
    cond (ltb w wait) (silent (with_request (some (goes_on q.phase q.sent w q)) s)) (expires (w - wait) q s)

unfoldable pub passes : ℕ → Option Request → State → Effect
passes n none s = silent s
passes n (some q) s = elapses (q.waited + n) q s
