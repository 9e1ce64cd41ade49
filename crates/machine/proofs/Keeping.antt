-- What replacing a part of a good state asks for, so that it stays good.
-- Assumes nothing.
use mathlib.Core.Path.{refl}
use mathlib.Core.Bool.{Bool, true, false, cond}
use mathlib.Core.List.{List, []}
use mathlib.Core.Option.{Option, none, some}
use Prim.Native.Nat.{ℕ, ◌-◌, ◌<◌, ◌≤◌}
use native.Mathlib.Omega.{arith}
use lib.Dec.{eqb}
use lib.ListN.{length}
use Rattle.line.specs.Frame.{Octets}
use Rattle.line.specs.Kind.{sop_kinds}
use Rattle.machine.specs.Registers.{stored_bits, stored, interrupta, interruptb, interrupt}
use Rattle.machine.specs.State.{
  Request,
  Status,
  Interrupts,
  Pins,
  State,
  with_cells,
  with_tx,
  with_rx,
  with_status,
  with_ints,
  with_request,
  with_pins,
  with_crc_chk,
  with_kind,
  shows,
  hides,
  raises_a,
  raises_b,
  raises,
}
use Rattle.machine.specs.Status.{tx_room, rx_room, cleared_at}
use Rattle.machine.specs.Requests.{over}
use Rattle.machine.specs.Packets.{only_if}
use Rattle.machine.specs.Good.{Within, KindGood, OpenGood, RequestGood, PinsGood, Good}
use Rattle.machine.proofs.Masks.{within_less, within_more, within_zero, cells_set}
use Rattle.machine.specs.Theorems.{PowerUpGood}

-- ---- power-up

pub power_up_good : PowerUpGood
power_up_good =
    record {
      cells = (refl, (refl, (refl, (refl, (refl, (refl, (refl, (refl, (refl, (refl, (refl, (refl, (refl, (refl, (refl, tt)))))))))))))));
      tx = tt;
      tx_few = omega arith;
      rx = tt;
      rx_few = omega arith;
      status0a = refl;
      kind = tt;
      interrupta = refl;
      interruptb = refl;
      interrupt = refl;
      request = tt;
      pins = record { cc1 = omega arith; cc2 = omega arith; vbus = omega arith };
    }

-- ---- a part replaced

module _ (s : State) (g : Good s) where
  pub keeps_cells : (a v : ℕ) → Good (with_cells (stored a v s.cells) s)
  unfolding stored
  keeps_cells a v =
      record {
        cells = cells_set stored_bits s.cells (a - 2) v g.cells;
        tx = g.tx;
        tx_few = g.tx_few;
        rx = g.rx;
        rx_few = g.rx_few;
        status0a = g.status0a;
        kind = g.kind;
        interrupta = g.interrupta;
        interruptb = g.interruptb;
        interrupt = g.interrupt;
        request = g.request;
        pins = g.pins;
      }

  -- queue and request together, since they hang together
  pub keeps_queue : (q : List ℕ) (r : Option Request) → Octets q → length q ≤ tx_room → OpenGood r q → Good (with_tx q (with_request r s))
  keeps_queue q r o h p =
      record {
        cells = g.cells;
        tx = o;
        tx_few = h;
        rx = g.rx;
        rx_few = g.rx_few;
        status0a = g.status0a;
        kind = g.kind;
        interrupta = g.interrupta;
        interruptb = g.interruptb;
        interrupt = g.interrupt;
        request = p;
        pins = g.pins;
      }

  pub keeps_rx : (q : List ℕ) → Octets q → length q ≤ rx_room → Good (with_rx q s)
  keeps_rx q o h =
      record {
        cells = g.cells;
        tx = g.tx;
        tx_few = g.tx_few;
        rx = o;
        rx_few = h;
        status0a = g.status0a;
        kind = g.kind;
        interrupta = g.interrupta;
        interruptb = g.interruptb;
        interrupt = g.interrupt;
        request = g.request;
        pins = g.pins;
      }

  pub keeps_status : (x : Status) → Within 0x33 x.status0a → KindGood x.kind → Good (with_status x s)
  keeps_status x h k =
      record {
        cells = g.cells;
        tx = g.tx;
        tx_few = g.tx_few;
        rx = g.rx;
        rx_few = g.rx_few;
        status0a = h;
        kind = k;
        interrupta = g.interrupta;
        interruptb = g.interruptb;
        interrupt = g.interrupt;
        request = g.request;
        pins = g.pins;
      }

  pub keeps_ints : (x : Interrupts) → Within 0x3F x.a → Within 0x01 x.b → Within 0xB9 x.main → Good (with_ints x s)
  keeps_ints x h k m =
      record {
        cells = g.cells;
        tx = g.tx;
        tx_few = g.tx_few;
        rx = g.rx;
        rx_few = g.rx_few;
        status0a = g.status0a;
        kind = g.kind;
        interrupta = h;
        interruptb = k;
        interrupt = m;
        request = g.request;
        pins = g.pins;
      }

  pub keeps_pins : (x : Pins) → PinsGood x → Good (with_pins x s)
  keeps_pins x h =
      record {
        cells = g.cells;
        tx = g.tx;
        tx_few = g.tx_few;
        rx = g.rx;
        rx_few = g.rx_few;
        status0a = g.status0a;
        kind = g.kind;
        interrupta = g.interrupta;
        interruptb = g.interruptb;
        interrupt = g.interrupt;
        request = g.request;
        pins = h;
      }

-- ---- what the definitions do to a part

module _ (s : State) (g : Good s) where
  pub keeps_over : Good (over s)
  keeps_over = keeps_queue s g [] none tt (omega arith) tt

  pub keeps_request : (q : Request) → RequestGood q s.tx → Good (with_request (some q) s)
  keeps_request q h = keeps_queue s g s.tx (some q) g.tx g.tx_few h

  pub keeps_shows : (m : ℕ) → Within 0x33 m → Good (shows m s)
  keeps_shows m h = keeps_status s g _ (within_more 0x33 s.status.status0a m g.status0a h) g.kind

  pub keeps_hides : (m : ℕ) → Good (hides m s)
  keeps_hides m = keeps_status s g _ (within_less 0x33 (0xFF - m) s.status.status0a g.status0a) g.kind

  pub keeps_crc_chk : (b : Bool) → Good (with_crc_chk b s)
  keeps_crc_chk b = keeps_status s g _ g.status0a g.kind

  pub keeps_kind : (k : ℕ) → k < sop_kinds → Good (with_kind k s)
  keeps_kind k h = keeps_status s g _ g.status0a h

  pub keeps_raises_a : (m : ℕ) → Within 0x3F m → Good (raises_a m s)
  keeps_raises_a m h = keeps_ints s g _ (within_more 0x3F s.ints.a m g.interrupta h) g.interruptb g.interrupt

  pub keeps_raises_b : (m : ℕ) → Within 0x01 m → Good (raises_b m s)
  keeps_raises_b m h = keeps_ints s g _ g.interrupta (within_more 0x01 s.ints.b m g.interruptb h) g.interrupt

  pub keeps_raises : (m : ℕ) → Within 0xB9 m → Good (raises m s)
  keeps_raises m h = keeps_ints s g _ g.interrupta g.interruptb (within_more 0xB9 s.ints.main m g.interrupt h)

  pub keeps_cleared : (r : ℕ) → Good (with_ints (cleared_at r s.ints) s)
  unfolding cleared_at
  keeps_cleared r =
      keeps_ints s g _ (either 0x3F s.ints.a g.interrupta (eqb r interrupta)) (either 0x01 s.ints.b g.interruptb (eqb r interruptb))
      (either 0xB9 s.ints.main g.interrupt (eqb r interrupt))
    where
      either : (m x : ℕ) → Within m x → (b : Bool) → Within m (cond b 0 x)
      either m x h true = within_zero m
      either m x h false = h

  pub keeps_when : (b : Bool) (f : State → State) → Good (f s) → Good (only_if b f s)
  keeps_when true f h = h
  keeps_when false f h = g
