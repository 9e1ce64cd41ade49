-- What a write does: each way out of the functions that carry it out.
-- Assumes nothing.
use Rattle.std.specs.Prelude.{Option, Some, None, Result, ⊤}
use Rattle.std.specs.Int.Bits.{bit_and}
use mathlib.Core.Path.{◌≡◌, refl, ap, ◌∙◌}
use mathlib.Core.Bool.{Bool}
use mathlib.Core.Option.{some}
use mathlib.Core.List.{List, ◌++◌}
use mathlib.Core.Logic.{◌⊎◌}
use Prim.Native.Nat.{ℕ, ◌+◌, ◌-◌, ◌<◌}
use native.Mathlib.Omega.{arith}
use borrow.Author.Tests.{lt-ltb, ne_eqb}
use lib.ListN.{length, drop, get_or, set}
use Rattle.std.specs.Array.{IsFirstChunk}
use Rattle.line.specs.Write.{frame_room}
use Rattle.machine.specs.Registers.{stored_bits, cell, stored, control0, control1, control3, reset, fifos, has, AUTO_SOFTRESET, AUTO_HARDRESET}
use Rattle.machine.specs.State.{State, with_cells, with_request, hides}
use Rattle.machine.specs.Status.{reports}
use Rattle.machine.specs.Queue.{spelt}
use Rattle.machine.specs.Requests.{silent, retries_of, latched, fail_bits, start}
use Rattle.machine.specs.Events.{write}
use Rattle.machine.specs.Step.{control0_written, control1_written, control3_written, reset_written, commands, writes, sw_reset, written, accepted, reply_to}
use Rattle.machine.proofs.Checking.{write_checks}
use Rattle.machine.proofs.Comparing.{control0_written_lem, control1_written_lem, control3_written_lem, reset_written_lem}
use Rattle.fusb302.specs.declared.bits.Place.{Place}
use Rattle.fusb302.specs.declared.bits.Place.TheVariants.{Id, Stored, Shown, Port}
use Rattle.fusb302.specs.declared.device.Cell.{Cell}
use Rattle.fusb302.specs.declared.device.Request.{Request}
use Rattle.fusb302.specs.declared.device.Device.{Device}
use Rattle.std.specs.Prelude.{Ok, Err}
use Rattle.fusb302.specs.declared.refusals.No.TheVariants.{SmallBuffer, NoSuchAddress, ReadOnly}
use Rattle.fusb302.specs.declared.device.Outcome.{Outcome}
use Rattle.fusb302.specs.declared.refusals.No.{No}
use Rattle.fusb302.specs.Places.{Placed}
use Rattle.fusb302.specs.Queued.{queued}
use Rattle.fusb302.specs.View.{asked, view, Asks}
use Rattle.fusb302.specs.Serves.{if_any, Becomes, Sends, Does, Serves, WriteServed, no_of, Refuses}
use Rattle.fusb302.proofs.Serving.{serves_no, serves_no_in, serves_in}
use Rattle.fusb302.proofs.Answering.{is_stored_lem, is_port, is_nowhere}
use Rattle.fusb302.proofs.Refusing.{refused_nowhere, refused_read_only}
use Rattle.fusb302.proofs.Becoming.{done, and_then, if_sending}

-- ---- a start

-- the request that a start opens, with its latched retries and resets
abbrev latching : Device → ℕ → Bool → Bool → Request
latching d retries soft hard =
    record {
      switches1 = get_or d.cells 1 0;
      retries = retries;
      soft = soft;
      hard = hard;
      resetting = None;
      sent = 0;
      waited = 0;
    }

pub begins : (d : Device) (retries : ℕ) (soft hard : Bool) → retries ≡ retries_of (get_or d.cells 7 0)
    → soft ≡ has AUTO_SOFTRESET (get_or d.cells 7 0) → hard ≡ has AUTO_HARDRESET (get_or d.cells 7 0)
    → (a b : Device) → Becomes (hides fail_bits (view d)) a → Becomes (with_request (some (asked (latching d retries soft hard))) (view a)) b
    → (n : ℕ) (before after : List ℕ) → Sends (if_any (spelt (queued d.tx))) before n after
    → Does (start (view d)) before (done b n) after
unfolding start latched cell
begins d retries soft hard p q r a b x y n before after h =
    rw (← p, ← q, ← r)
    (if_sending _ b (and_then _ a x (with_request (some (asked (latching d retries soft hard)))) b y) before n after (spelt (queued d.tx)) h)

-- ---- a register is stored, and then commands

module _ (c : Cell) (v : ℕ) (s : State) where
  -- the state with the register's bits that are stored
  abbrev puts : State
  puts = with_cells (set s.cells c.at (bit_and v (get_or stored_bits c.at 0))) s

  is_stored_at : stored (c.at + 2) v s.cells ≡ set s.cells c.at (bit_and v (get_or stored_bits c.at 0))
  unfolding stored
  is_stored_at = let at : c.at + 2 - 2 ≡ c.at = omega arith in rw at refl

  pub is_control0 : c.at ≡ 4 → written (c.at + 2) v s ≡ control0_written v puts
  is_control0 e = rw (← is_stored_at) (let a : c.at + 2 ≡ control0 = omega arith in rw a (control0_written_lem v s))

  pub is_control1 : c.at ≡ 5 → written (c.at + 2) v s ≡ control1_written v puts
  is_control1 e = rw (← is_stored_at) (let a : c.at + 2 ≡ control1 = omega arith in rw a (control1_written_lem v s))

  pub is_control3 : c.at ≡ 7 → written (c.at + 2) v s ≡ control3_written v puts
  is_control3 e = rw (← is_stored_at) (let a : c.at + 2 ≡ control3 = omega arith in rw a (control3_written_lem v s))

  pub is_reset : c.at ≡ 10 → written (c.at + 2) v s ≡ reset_written v puts
  is_reset e = rw (← is_stored_at) (let a : c.at + 2 ≡ reset = omega arith in rw a (reset_written_lem v s))

  -- a register with no command, which the comparators may read
  pub is_plain : (c.at ≡ 4 → ⊥) → (c.at ≡ 5 → ⊥) → (c.at ≡ 7 → ⊥) → (c.at ≡ 10 → ⊥)
      → written (c.at + 2) v s ≡ silent (reports s puts)
  unfolding written writes commands sw_reset
  is_plain p q r t =
      let less = c.among in
      rw (← is_stored_at)
      (rw (
        ne_eqb (c.at + 2) fifos (λ e. omega arith),
        ne_eqb (c.at + 2) control0 (λ e. p (omega arith)),
        ne_eqb (c.at + 2) control1 (λ e. q (omega arith)),
        ne_eqb (c.at + 2) control3 (λ e. r (omega arith)),
        ne_eqb (c.at + 2) reset (λ e. t (omega arith)),
      ) refl)

-- ---- refused, or carried out

module _ (d : Device) (asks : Asks d) (a v : ℕ) (frame : List ℕ) where
  pub write_refused : (n : No) → Refuses (view d) a v (Err n) → WriteServed a v d frame (record { device = d; reply = Err n; count = 0 }) frame
  write_refused n x =
      record { serves = λ lent first. serves_no_in (write (length lent) a v) d lent asks frame first n (x.is (length lent) first.enough) }

  pub write_taken : a < 256 → v < 256 → (o : Result ⊤ No) → Refuses (view d) a v o → o ≡ Ok tt → (r : Outcome) (after : List ℕ)
      → Does (written a v (view d)) frame r after → WriteServed a v d frame r after
  unfolding accepted reply_to
  write_taken p q o x e r after y =
      record {
        serves = λ lent first.
            serves_in (write (length lent) a v) d lent asks frame first (x.is (length lent) first.enough ∙ ap no_of e) (p, q) refl r after y;
      }

-- ---- the whole

module _ (d : Device) (asks : Asks d) (before : List ℕ) (a v : ℕ) where
  pub write_small : length before < frame_room → Serves (write (length before) a v) d before (record { device = d; reply = Err SmallBuffer; count = 0 }) before
  write_small h =
      serves_no (write (length before) a v) d before asks SmallBuffer
      (write_checks (view d) (length before) a v ∙ simp (lt-ltb (length before) frame_room h))

  module _ (frame : List ℕ) (first : IsFirstChunk before frame frame_room) where
    refuses : (n : No) → Refuses (view d) a v (Err n)
        → Serves (write (length before) a v) d before (record { device = d; reply = Err n; count = 0 }) (frame ++ drop frame_room before)
    refuses n x = (write_refused d asks a v frame n x).serves before first

    pub write_nowhere : (o : Option Place) → Placed a o → o ≡ None
        → Serves (write (length before) a v) d before (record { device = d; reply = Err NoSuchAddress; count = 0 }) (frame ++ drop frame_room before)
    write_nowhere o placed k = refuses NoSuchAddress (refused_nowhere (view d) a v (is_nowhere a o placed k))

    pub write_read_only : (p : Place) → Placed a (Some p) → (p ≡ Id) ⊎ (p ≡ Shown)
        → Serves (write (length before) a v) d before (record { device = d; reply = Err ReadOnly; count = 0 }) (frame ++ drop frame_room before)
    write_read_only p placed k = refuses ReadOnly (refused_read_only (view d) a v p placed k)

module _ (d : Device) (a v : ℕ) (frame : List ℕ) (r : Outcome) (after : List ℕ) where
  pub write_stored : (c : Cell) → WriteServed (c.at + 2) v d frame r after → (p : Place) → p ≡ Stored c → Placed a (Some p)
      → (before : List ℕ) → IsFirstChunk before frame frame_room → Serves (write (length before) a v) d before r (after ++ drop frame_room before)
  write_stored c x p k placed before first = rw (is_stored_lem a p c placed k) (x.serves before first)

  pub write_at_port : WriteServed fifos v d frame r after → (p : Place) → p ≡ Port → Placed a (Some p)
      → (before : List ℕ) → IsFirstChunk before frame frame_room → Serves (write (length before) a v) d before r (after ++ drop frame_room before)
  write_at_port x p k placed before first = rw (is_port a p placed k) (x.serves before first)
