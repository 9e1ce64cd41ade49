-- What a line of input does: to the device, and in print (01, 'On the bench table', last part; 02, A5).
-- Assumes nothing.
use Rattle.std.specs.Prelude.{◌≡◌, Bool, true, false, not, cond, List, [], ℕ, ◌≤◌, length, take, Option, Some, None}
use Rattle.text.specs.Put.{Puts, has_room, Prints}
use Rattle.line.specs.Frame.{Frame, joined}
use Rattle.line.specs.Write.{frame_room}
use Rattle.machine.specs.State.{State}
use Rattle.machine.specs.Status.{int_low}
use Rattle.machine.specs.Events.{Event, write, read, pass, hard_reset, packet, sense, Reply}
use Rattle.machine.specs.Step.{Result, step}
use Rattle.machine.specs.Why.{why}
use Rattle.fusb302.specs.declared.device.Device.{Device}
use Rattle.fusb302.specs.View.{view, Asks}
use Rattle.fusb302.specs.Serves.{overlaid}
use Rattle.script.specs.declared.parse.Line.{Line}
use Rattle.script.specs.declared.parse.Line.TheVariants.{Write, Read, Time, HardReset, Packet, Sense}
use Rattle.script.specs.Parse.{event_of, setup_of, packet_octets}
use Rattle.script.specs.Print.{outcome_text, bad_line_text, why_text, bench_line_room, PrintsOutcome}

-- ---- a line's event, or none where it is out of form

-- a line of the setup, or of the events
abbrev pub meant_by : Bool → List ℕ → Option Event
meant_by setup l = cond setup (setup_of l) (event_of l)

abbrev pub missing : Option Event → Bool
missing None = true
missing (Some e) = false

-- what it leaves, sends and prints
unfoldable pub left_by : State → Option Event → State
left_by s None = s
left_by s (Some e) = (step s e).state

unfoldable pub sent_by : State → Option Event → List Frame
sent_by s None = []
sent_by s (Some e) = (step s e).frames

-- reply, INT_N level after it, symbols
unfoldable pub result_text : Result → List ℕ
result_text r = outcome_text r.reply (not (int_low r.state)) (joined r.frames)

unfoldable pub text_of : State → Option Event → ℕ → List ℕ
text_of s None number = bad_line_text number
text_of s (Some e) number = result_text (step s e)

-- of a packet, why it gets no GoodCRC; of any other event nothing
unfoldable pub reason_text_of : State → Option Event → ℕ → List ℕ
reason_text_of s None number = []
reason_text_of s (Some (write r a v)) number = []
reason_text_of s (Some (read r a)) number = []
reason_text_of s (Some (pass r n)) number = []
reason_text_of s (Some (hard_reset r)) number = []
reason_text_of s (Some (packet r k m)) number = why_text number (why s k m)
reason_text_of s (Some (sense r x y z)) number = []

-- what a program tells: of each line its outcome, or of each packet why it gets no GoodCRC
pub data Telling : Type 0 where
  outcomes : Telling
  reasons : Telling

-- the bench's, or that of `why`; a line out of form is told of by both
unfoldable pub told_text : Telling → State → Option Event → ℕ → List ℕ
told_text outcomes s e number = text_of s e number
told_text reasons s None number = bad_line_text number
told_text reasons s (Some e) number = reason_text_of s (Some e) number

-- ---- promises

-- after a line: the device, whether the run ends there, and the place behind what was printed
pub record Turned : Type 0 where
  pub device : Device
  pub ends : Bool
  pub at : ℕ

-- what a line is lent: where its text goes, and room for a packet's octets and a frame's symbols
pub record Lent : Type 0 where
  pub out : List ℕ
  pub octets : List ℕ
  pub symbols : List ℕ

-- a parsed line is done and told of
pub record ActsTelling (t : Telling) (d : Device) (e : Option Event) (number : ℕ) (lent out : List ℕ) (at : ℕ) (r : Turned) (sent out' : List ℕ) : Type 0 where
  pub ends : r.ends ≡ missing e
  pub state : view r.device ≡ left_by (view d) e
  pub asks : Asks r.device
  pub prints : Puts out at (told_text t (view d) e number) r.at out'
  pub fits : r.at ≤ length out
  pub symbols : sent ≡ overlaid (joined (sent_by (view d) e)) lent

-- a line is taken
pub record TurnsTelling (t : Telling) (d : Device) (e : Option Event) (number : ℕ) (before : Lent) (at : ℕ) (r : Turned) (after : Lent) : Type 0 where
  pub acts : ActsTelling t d e number before.symbols before.out at r after.symbols after.out
  pub octets : after.octets ≡ overlaid (packet_octets e) before.octets

-- or, where its text need not fit, all stays as it stood and the run ends
unfoldable pub TakesLineTelling : Bool → Telling → Device → Option Event → ℕ → Lent → ℕ → Turned → Lent → Type 0
TakesLineTelling true t d e number before at r after = TurnsTelling t d e number before at r after
TakesLineTelling false t d e number before at r after = (r ≡ record { device = d; ends = true; at = at }) × (after ≡ before)

-- ---- the bench's: outcomes are told

abbrev pub Acts : Device → Option Event → ℕ → (lent out : List ℕ) → ℕ → Turned → (sent out' : List ℕ) → Type 0
Acts d e number lent out at r sent out' = ActsTelling outcomes d e number lent out at r sent out'

-- a line is taken
pub record Turns (d : Device) (e : Option Event) (number : ℕ) (before : Lent) (at : ℕ) (r : Turned) (after : Lent) : Type 0 where
  pub acts : Acts d e number before.symbols before.out at r after.symbols after.out
  pub octets : after.octets ≡ overlaid (packet_octets e) before.octets

-- or, where its text need not fit, all stays as it stood and the run ends
unfoldable pub TakesLine : Bool → Device → Option Event → ℕ → Lent → ℕ → Turned → Lent → Type 0
TakesLine true d e number before at r after = Turns d e number before at r after
TakesLine false d e number before at r after = (r ≡ record { device = d; ends = true; at = at }) × (after ≡ before)

-- ---- a parsed line, and the octets beside it

abbrev pub event_for : Line → List ℕ → Event
event_for (Write a v) m = write frame_room a v
event_for (Read a) m = read frame_room a
event_for (Time n) m = pass frame_room n
event_for HardReset m = hard_reset frame_room
event_for (Packet k n) m = packet frame_room k (take n m)
event_for (Sense x y z) m = sense frame_room x y z

abbrev pub heard_of : Line → ℕ
heard_of (Write a v) = 0
heard_of (Read a) = 0
heard_of (Time n) = 0
heard_of HardReset = 0
heard_of (Packet k n) = n
heard_of (Sense x y z) = 0

-- ---- what is told before the event, and after it

unfoldable pub TellsReason : Telling → State → Option Event → ℕ → List ℕ → ℕ → ℕ → List ℕ → Type 0
TellsReason outcomes s e number out at r out' = (r ≡ at) × (out' ≡ out)
TellsReason reasons s e number out at r out' = Prints (has_room bench_line_room out at) out at (reason_text_of s e number) r out'

unfoldable pub TellsOutcome : Telling → Reply → Bool → List ℕ → List ℕ → ℕ → ℕ → List ℕ → Type 0
TellsOutcome outcomes reply high symbols out at r out' = PrintsOutcome reply high symbols out at r out'
TellsOutcome reasons reply high symbols out at r out' = (r ≡ at) × (out' ≡ out)
