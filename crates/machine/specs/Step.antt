-- One event, and any list of events: the refusal that applies first, else what the event does.
-- Assumes nothing.
use Rattle.std.specs.Prelude.{Bool, cond, ◌&&◌, List, [], ◌∷◌, ◌++◌, ℕ, ◌-◌, eqb, drop, get_or}
use Rattle.std.proofs.Math.Option.{Option, none, some}
use Rattle.line.specs.Frame.{Frame, joined}
use Rattle.machine.specs.Registers.{
  device_id,
  control0,
  control1,
  control3,
  reset,
  status0a,
  fifos,
  is_stored,
  stored,
  has,
  TX_FLUSH,
  TX_START,
  RX_FLUSH,
  SEND_HARD_RESET,
  PD_RESET,
  SW_RES,
}
use Rattle.machine.specs.State.{Pins, State, power_up, cleared, reg, with_cells, with_tx, with_rx, with_status, with_ints, with_pins, raises}
use Rattle.machine.specs.Status.{tx_full, I_ALERT, shown, reports, cleared_at}
use Rattle.machine.specs.Requests.{Effect, silent, over, start, send_hard_reset, hard_reset_heard, passes}
use Rattle.machine.specs.Packets.{only_if, hears}
use Rattle.machine.specs.Events.{Event, write, read, pass, hard_reset, packet, sense, Reply, done, value, no}
use Rattle.machine.specs.Refusals.{port_start, refusal}

-- ---- writes

-- everything as after power-up, but the voltages are what they are (02, A1)
unfoldable pub restored : State → State
restored s = with_pins s.pins power_up

-- both FIFOs empty, no request, 3C, 3D, CRC_CHK and the RXSOP bits cleared
unfoldable pub pd_reset : State → State
pd_reset s = with_rx [] (with_status cleared (over s))

unfoldable pub queues : ℕ → State → State
queues v s = let t = with_tx (s.tx ++ (v ∷ [])) s in only_if (tx_full t) (raises I_ALERT) t

-- TX_FLUSH acts before TX_START
unfoldable pub control0_written : ℕ → State → Effect
control0_written v s = let t = only_if (has TX_FLUSH v) over s in cond (has TX_START v) (start t) (silent t)

unfoldable pub control1_written : ℕ → State → Effect
control1_written v s = silent (only_if (has RX_FLUSH v) (with_rx []) s)

unfoldable pub control3_written : ℕ → State → Effect
control3_written v s = cond (has SEND_HARD_RESET v) (send_hard_reset s) (silent s)

-- SW_RES wins over PD_RESET
unfoldable pub reset_written : ℕ → State → Effect
reset_written v s = silent (cond (has SW_RES v) (restored s) (only_if (has PD_RESET v) pd_reset s))

unfoldable pub port_written : ℕ → State → Effect
port_written v s = cond (port_start s fifos v) (start s) (silent (queues v s))

-- the command bits of a register that was stored
unfoldable pub commands : ℕ → ℕ → State → Effect
commands a v s =
    cond (eqb a control0) (control0_written v s)
    (cond (eqb a control1) (control1_written v s)
    (cond (eqb a control3) (control3_written v s)
    (cond (eqb a reset) (reset_written v s) (silent s))))

unfoldable pub writes : ℕ → ℕ → State → Effect
writes a v s = cond (eqb a fifos) (port_written v s) (commands a v (with_cells (stored a v s.cells) s))

-- SW_RES in Reset
unfoldable pub sw_reset : ℕ → ℕ → Bool
sw_reset a v = eqb a reset && has SW_RES v

-- every write but SW_RES reports what it changed in what the comparators show (02, A1)
unfoldable pub written : ℕ → ℕ → State → Effect
written a v s =
    let x = writes a v s in record { state = cond (sw_reset a v) x.state (reports s x.state); frames = x.frames }

-- ---- reads

unfoldable pub read_value : ℕ → State → ℕ
read_value a s =
    cond (eqb a fifos) (get_or s.rx 0 0)
    (cond (eqb a device_id) 0x91
    (cond (is_stored a) (reg a s) (get_or (shown s) (a - status0a) 0)))

unfoldable pub after_read : ℕ → State → State
after_read a s = cond (eqb a fifos) (with_rx (drop 1 s.rx) s) (with_ints (cleared_at a s.ints) s)

-- ---- voltages on the pins

unfoldable pub senses : Pins → State → State
senses p s = reports s (with_pins p s)

-- ---- events

-- what an event does that is not refused
unfoldable pub accepted : State → Event → Effect
accepted s (write r a v) = written a v s
accepted s (read r a) = silent (after_read a s)
accepted s (pass r n) = passes n s.request s
accepted s (hard_reset r) = silent (hard_reset_heard s)
accepted s (packet r k m) = hears k m s
accepted s (sense r x y z) = silent (senses (record { cc1 = x; cc2 = y; vbus = z }) s)

unfoldable pub reply_to : State → Event → Reply
reply_to s (write r a v) = done
reply_to s (read r a) = value (read_value a s)
reply_to s (pass r n) = done
reply_to s (hard_reset r) = done
reply_to s (packet r k m) = done
reply_to s (sense r x y z) = done

pub record Result : Type 0 where
  pub state : State
  pub reply : Reply
  pub frames : List Frame

unfoldable pub result_of : Option ℕ → State → Event → Result
result_of (some n) s e = record { state = s; reply = no n; frames = [] }
result_of none s e = record { state = (accepted s e).state; reply = reply_to s e; frames = (accepted s e).frames }

unfoldable pub step : State → Event → Result
step s e = result_of (refusal s e) s e

-- ---- histories

-- the state, the replies and the frames after a list of events
unfoldable pub after : State → List Event → State
after s [] = s
after s (e ∷ es) = after (step s e).state es

unfoldable pub replies : State → List Event → List Reply
replies s [] = []
replies s (e ∷ es) = (step s e).reply ∷ replies (step s e).state es

unfoldable pub frames : State → List Event → List Frame
frames s [] = []
frames s (e ∷ es) = (step s e).frames ++ frames (step s e).state es

-- what the events put on the line
unfoldable pub record_of : State → List Event → List ℕ
record_of s es = joined (frames s es)
