-- The state of the machine that a device stands for, and which devices events lead to.
-- Assumes nothing.
use Rattle.std.specs.Prelude as rust
use Rattle.std.specs.Prelude.{Some, None, ◌≡◌, Bool, not, length}
use Rattle.std.proofs.Math.Option.{Option, none, some}
use Rattle.line.specs.declared.kind.SopKind.{SopKind}
use Rattle.line.specs.Numbered.{sop_number}
use Rattle.machine.specs.State as machine
use Rattle.machine.specs.State.{Phase, message, soft_reset, State, power_up}
use Rattle.machine.specs.Status.{int_low}
use Rattle.machine.specs.Good.{Good}
use Rattle.fusb302.specs.declared.device.Status.{Status}
use Rattle.fusb302.specs.declared.device.Ints.{Ints}
use Rattle.fusb302.specs.declared.device.Request.{Request}
use Rattle.fusb302.specs.declared.device.Device.{Device}
use Rattle.fusb302.specs.Queued.{queued, Kept, sop_kind}
use Rattle.fusb302.specs.Held.{held, Sound}
use Rattle.fusb302.specs.Sensed.{pins_of}

-- what a request sends: a Soft_Reset on that SOP kind, or where it is none its message
abbrev pub phase_of : rust.Option SopKind → Phase
phase_of (Some s) = soft_reset (sop_number s)
phase_of None = message

-- what a request asks for
abbrev pub asked : Request → machine.Request
asked q =
    record {
      switches1 = q.switches1;
      retries = q.retries;
      soft = q.soft;
      hard = q.hard;
      phase = phase_of q.resetting;
      sent = q.sent;
      waited = q.waited;
    }

abbrev pub request_of : rust.Option Request → Option machine.Request
request_of (Some q) = some (asked q)
request_of None = none

abbrev pub status_of : Status → machine.Status
status_of x = record { status0a = x.status0a; crc_chk = x.crc_chk; kind = sop_kind x.kind }

abbrev pub ints_of : Ints → machine.Interrupts
ints_of x = record { a = x.a; b = x.b; main = x.main }

abbrev pub view : Device → State
view d =
    record {
      cells = d.cells;
      tx = queued d.tx;
      rx = held d.rx;
      status = status_of d.status;
      ints = ints_of d.ints;
      request = request_of d.request;
      pins = pins_of d.pins;
    }

-- sizes, and what is kept beside the queue's octets
pub record Arranged (d : Device) : Type 0 where
  pub cells : length d.cells ≡ 15
  pub tx : Kept d.tx
  pub rx : Sound d.rx

-- what a method asks of the device it is called on
pub record Asks (d : Device) : Type 0 where
  pub arranged : Arranged d
  pub good : Good (view d)

-- the level of INT_N, high or low
abbrev pub Level : Device → Bool → Type 0
Level d high = high ≡ not (int_low (view d))

pub record PoweredUp (d : Device) : Type 0 where
  pub asks : Asks d
  pub new : view d ≡ power_up
