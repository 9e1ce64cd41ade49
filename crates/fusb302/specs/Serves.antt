-- What every event method promises: the machine's step, in device, reply, count and lent symbols.
-- Assumes nothing.
use Rattle.std.specs.Prelude.{◌≡◌, Bool, cond, List, [], ◌∷◌, ◌++◌, ℕ, ◌≤◌, length, drop, ⊤, Some, None, Result, Ok, Err}
use Rattle.std.specs.Prelude as std
use Rattle.std.proofs.Math.Option.{Option, none, some}
use Rattle.std.specs.Array.{IsFirstChunk}
use Rattle.line.specs.Frame.{Frame, joined}
use Rattle.line.specs.Write.{frame_room}
use Rattle.machine.specs.Registers.{fifos}
use Rattle.machine.specs.Requests.{Effect}
use Rattle.machine.specs.Events as events
use Rattle.machine.specs.Events.{Event}
use Rattle.machine.specs.State.{State}
use Rattle.machine.specs.Refusals.{refusal}
use Rattle.machine.specs.Step.{step}
use Rattle.fusb302.specs.declared.device.Device.{Device}
use Rattle.fusb302.specs.declared.device.Outcome.{Outcome}
use Rattle.fusb302.specs.declared.refusals.No.{No}
use Rattle.fusb302.specs.declared.refusals.No.TheVariants.{QueueFull, NotAMessage, DriverOff}
use Rattle.fusb302.specs.Refusals.{number_of}
use Rattle.fusb302.specs.View.{view, Arranged, Asks}

-- a `Reply`, since antt has no name for an alias
abbrev pub Reply : Type 0
Reply = Result (std.Option ℕ) No

-- what a reply means, in 01's numbers and values
abbrev pub replied : Reply → events.Reply
replied (Ok None) = events.done
replied (Ok (Some v)) = events.value v
replied (Err n) = events.no (number_of n)

-- symbols at the beginning of what was lent, and then what stood there
abbrev pub overlaid : List ℕ → List ℕ → List ℕ
overlaid f l = f ++ drop (length f) l

-- frames were put at the beginning of the lent symbols, n symbols in all
pub record Sends (fs : List Frame) (before : List ℕ) (n : ℕ) (after : List ℕ) : Type 0 where
  pub count : n ≡ length (joined fs)
  pub lent : after ≡ overlaid (joined fs) before

-- a device that stands for a state
pub record Becomes (s : State) (d : Device) : Type 0 where
  pub state : view d ≡ s
  pub arranged : Arranged d

-- a part of a method that does what the machine's effect says, and sends its frames
pub record Does (x : Effect) (before : List ℕ) (r : Outcome) (after : List ℕ) : Type 0 where
  pub state : view r.device ≡ x.state
  pub arranged : Arranged r.device
  pub reply : r.reply ≡ Ok None
  pub sends : Sends x.frames before r.count after

-- a part that is lent no symbols, since it sends nothing
pub record DoesQuietly (x : Effect) (r : Outcome) : Type 0 where
  pub state : view r.device ≡ x.state
  pub arranged : Arranged r.device
  pub reply : r.reply ≡ Ok None
  pub count : r.count ≡ 0
  pub quiet : x.frames ≡ []

-- none, or one
abbrev pub if_any : Option Frame → List Frame
if_any none = []
if_any (some f) = f ∷ []

pub record Serves (e : Event) (d : Device) (before : List ℕ) (r : Outcome) (after : List ℕ) : Type 0 where
  pub state : view r.device ≡ (step (view d) e).state
  pub asks : Asks r.device
  pub reply : replied r.reply ≡ (step (view d) e).reply
  pub count : r.count ≡ length (joined (step (view d) e).frames)
  pub lent : after ≡ overlaid (joined (step (view d) e).frames) before
  pub refused : (n : No) → r.reply ≡ Err n → r.device ≡ d

-- the same of a read of 43, room for a frame being lent
pub record PortRead (d : Device) (r : Outcome) : Type 0 where
  pub serves : (before : List ℕ) → frame_room ≤ length before → Serves (events.read (length before) fifos) d before r before

-- the same of a write of v at a, which is given only the room for a frame that begins what is lent
pub record WriteServed (a v : ℕ) (d : Device) (frame : List ℕ) (r : Outcome) (after : List ℕ) : Type 0 where
  pub serves :
      (lent : List ℕ) → IsFirstChunk lent frame frame_room
      → Serves (events.write (length lent) a v) d lent r (after ++ drop frame_room lent)

-- ---- what a write is refused with

-- the number of no, where it is refused
abbrev pub no_of : Result ⊤ No → Option ℕ
no_of (Ok u) = none
no_of (Err n) = some (number_of n)

-- room for a frame being lent, whether a write of v at a is refused, and for what
pub record Refuses (s : State) (a v : ℕ) (r : Result ⊤ No) : Type 0 where
  pub is : (room : ℕ) → frame_room ≤ room → refusal s (events.write room a v) ≡ no_of r

-- a frame's: refused where the driver is off
abbrev pub sending_no : Bool → Result ⊤ No
sending_no on = cond on (Ok tt) (Err DriverOff)

-- a start's: also where the queue is no message
abbrev pub start_no : Bool → Bool → Result ⊤ No
start_no message on = cond message (sending_no on) (Err NotAMessage)

-- an octet's that is to be stored: refused where the queue is full
abbrev pub storing_no : Bool → Result ⊤ No
storing_no full = cond full (Err QueueFull) (Ok tt)
