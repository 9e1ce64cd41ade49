-- The device's state: plain numbers and lists, and how a part of it is replaced.
-- Assumes nothing.
use Rattle.std.specs.Prelude.{Bool, false, List, [], ℕ, ◌-◌}
use Rattle.std.proofs.Math.Option.{Option, none, some}
use Rattle.std.specs.Int.Bits.{bit_and, bit_or}
use Rattle.machine.specs.Registers.{resets, cell}

-- what a request sends: its message, which the queue keeps; or, when that has failed and the queue is empty, the Soft_Reset on
-- the message's kind (02, A2)
pub data Phase : Type 0 where
  message : Phase
  soft_reset : (kind : ℕ) → Phase

-- an open request: what its start latched, and how far it has come
pub record Request : Type 0 where
  pub switches1 : ℕ
  pub retries : ℕ
  pub soft : Bool
  pub hard : Bool
  pub phase : Phase
  pub sent : ℕ  -- retries sent in this phase
  pub waited : ℕ  -- microseconds of the present wait

-- 3C, CRC_CHK, and the kind last stored in Rx
pub record Status : Type 0 where
  pub status0a : ℕ
  pub crc_chk : Bool
  pub kind : Option ℕ

-- 3E, 3F and 42
pub record Interrupts : Type 0 where
  pub a : ℕ
  pub b : ℕ
  pub main : ℕ

-- millivolts on the pins (02, A1)
pub record Pins : Type 0 where
  pub cc1 : ℕ
  pub cc2 : ℕ
  pub vbus : ℕ

pub record State : Type 0 where
  pub cells : List ℕ  -- registers 02 to 10
  pub tx : List ℕ  -- the transmit queue, oldest octet first
  pub rx : List ℕ  -- the receive FIFO, oldest octet first
  pub status : Status
  pub ints : Interrupts
  pub request : Option Request
  pub pins : Pins

abbrev pub cleared : Status
cleared = record { status0a = 0; crc_chk = false; kind = none }

abbrev pub power_up : State
power_up =
    record {
      cells = resets;
      tx = [];
      rx = [];
      status = cleared;
      ints = record { a = 0; b = 0; main = 0 };
      request = none;
      pins = record { cc1 = 0; cc2 = 0; vbus = 0 };
    }

-- a stored register as it stands
abbrev pub reg : ℕ → State → ℕ
reg a s = cell a s.cells

-- ---- with another part

abbrev pub with_cells : List ℕ → State → State
with_cells x s = record { cells = x; tx = s.tx; rx = s.rx; status = s.status; ints = s.ints; request = s.request; pins = s.pins }

abbrev pub with_tx : List ℕ → State → State
with_tx x s = record { cells = s.cells; tx = x; rx = s.rx; status = s.status; ints = s.ints; request = s.request; pins = s.pins }

abbrev pub with_rx : List ℕ → State → State
with_rx x s = record { cells = s.cells; tx = s.tx; rx = x; status = s.status; ints = s.ints; request = s.request; pins = s.pins }

abbrev pub with_status : Status → State → State
with_status x s = record { cells = s.cells; tx = s.tx; rx = s.rx; status = x; ints = s.ints; request = s.request; pins = s.pins }

abbrev pub with_ints : Interrupts → State → State
with_ints x s = record { cells = s.cells; tx = s.tx; rx = s.rx; status = s.status; ints = x; request = s.request; pins = s.pins }

abbrev pub with_request : Option Request → State → State
with_request x s = record { cells = s.cells; tx = s.tx; rx = s.rx; status = s.status; ints = s.ints; request = x; pins = s.pins }

abbrev pub with_pins : Pins → State → State
with_pins x s =
    record { cells = s.cells; tx = s.tx; rx = s.rx; status = s.status; ints = s.ints; request = s.request; pins = x }

-- ---- bits set and cleared in 3C, set in 3E, 3F and 42

abbrev pub with_status0a : ℕ → State → State
with_status0a x s = with_status (record { status0a = x; crc_chk = s.status.crc_chk; kind = s.status.kind }) s

abbrev pub with_crc_chk : Bool → State → State
with_crc_chk x s = with_status (record { status0a = s.status.status0a; crc_chk = x; kind = s.status.kind }) s

abbrev pub with_kind : ℕ → State → State
with_kind k s = with_status (record { status0a = s.status.status0a; crc_chk = s.status.crc_chk; kind = some k }) s

abbrev pub shows : ℕ → State → State
shows m s = with_status0a (bit_or s.status.status0a m) s

abbrev pub hides : ℕ → State → State
hides m s = with_status0a (bit_and s.status.status0a (0xFF - m)) s

abbrev pub raises_a : ℕ → State → State
raises_a m s = with_ints (record { a = bit_or s.ints.a m; b = s.ints.b; main = s.ints.main }) s

abbrev pub raises_b : ℕ → State → State
raises_b m s = with_ints (record { a = s.ints.a; b = bit_or s.ints.b m; main = s.ints.main }) s

abbrev pub raises : ℕ → State → State
raises m s = with_ints (record { a = s.ints.a; b = s.ints.b; main = bit_or s.ints.main m }) s
