-- What holds of every state that events lead to from power-up.
-- Assumes nothing.
use Rattle.std.specs.Prelude.{◌≡◌, List, [], ◌∷◌, ℕ, ◌+◌, ◌<◌, ◌≤◌, ◌^◌, length}
use Rattle.std.proofs.Math.Option.{Option, none, some}
use Rattle.std.specs.Int.Bits.{bit_and}
use Rattle.line.specs.Frame.{Frame, Octets}
use Rattle.line.specs.Kind.{sop_kinds}
use Rattle.machine.specs.Registers.{stored_bits}
use Rattle.machine.specs.State.{Phase, message, soft_reset, Request, Pins, State}
use Rattle.machine.specs.Status.{tx_room, rx_room, I_VBUSOK, I_COMP_CHNG, I_CRC_CHK, I_ALERT, I_BC_LVL}
use Rattle.machine.specs.Queue.{spelt}
use Rattle.machine.specs.Requests.{wait}

-- no bit of x but those of m
abbrev pub Within : ℕ → ℕ → Type 0
Within m x = bit_and x m ≡ x

-- cells within their stored bits, cell by cell
abbrev pub AllWithin : List ℕ → List ℕ → Type 0
AllWithin [] [] = Unit {0}
AllWithin [] (x ∷ xs) = ⊥
AllWithin (m ∷ ms) [] = ⊥
AllWithin (m ∷ ms) (x ∷ xs) = Within m x × AllWithin ms xs

abbrev pub KindGood : Option ℕ → Type 0
KindGood none = Unit {0}
KindGood (some k) = k < sop_kinds

-- the queue keeps its message while that is in flight, and is empty while a Soft_Reset is, on an SOP kind
abbrev pub PhaseGood : Phase → List ℕ → Type 0
PhaseGood message q = (f : Frame) × (spelt q ≡ some f)
PhaseGood (soft_reset k) q = (k < sop_kinds) × (q ≡ [])

pub record RequestGood (q : Request) (tx : List ℕ) : Type 0 where
  pub octet : q.switches1 < 256
  pub few : q.retries ≤ 3
  pub sent : q.sent ≤ q.retries
  pub waited : q.waited < wait
  pub phase : PhaseGood q.phase tx

abbrev pub OpenGood : Option Request → List ℕ → Type 0
OpenGood none tx = Unit {0}
OpenGood (some q) tx = RequestGood q tx

-- 0 to 65,535 millivolts
pub record PinsGood (p : Pins) : Type 0 where
  pub cc1 : p.cc1 < 2 ^ 16
  pub cc2 : p.cc2 < 2 ^ 16
  pub vbus : p.vbus < 2 ^ 16

pub record Good (s : State) : Type 0 where
  pub cells : AllWithin stored_bits s.cells
  pub tx : Octets s.tx
  pub tx_few : length s.tx ≤ tx_room
  pub rx : Octets s.rx
  pub rx_few : length s.rx ≤ rx_room
  pub status0a : Within 0x33 s.status.status0a
  pub kind : KindGood s.status.kind
  pub interrupta : Within 0x3F s.ints.a
  pub interruptb : Within 0x01 s.ints.b
  pub interrupt : Within (I_VBUSOK + (I_COMP_CHNG + (I_CRC_CHK + (I_ALERT + I_BC_LVL)))) s.ints.main
  pub request : OpenGood s.request s.tx
  pub pins : PinsGood s.pins
