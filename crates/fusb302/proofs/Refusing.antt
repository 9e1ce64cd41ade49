-- What a write is refused with: each way out of the checks, by address.
-- Assumes nothing.
use mathlib.Core.Path.{◌≡◌, refl, sym, ap, ◌∙◌}
use mathlib.Core.Bool.{Bool, true, false, not, cond, ◌&&◌, ◌||◌, or-false, and-eq-true_iff}
use mathlib.Core.List.{[]}
use mathlib.Core.Logic.{◌⊎◌, inl, inr}
use mathlib.Core.Option.{Option, none, some}
use Prim.Native.Nat.{ℕ, zero, suc, ◌+◌, ◌<◌, ◌≤◌}
use native.Mathlib.Omega.{arith}
use borrow.Author.Tests.{lt-ltb, le-ltb, le-leb, lt-leb, leb-false, eqb-true, ne_eqb, not-true}
use lib.Dec.{ltb, leb, eqb}
use lib.ListN.{length, get_or}
use Rattle.std.specs.Prelude as rust
use Rattle.std.specs.Prelude.{Some, None, Result, Ok, Err, ⊤}
use Rattle.line.specs.Write.{frame_room}
use Rattle.machine.specs.Registers.{cell, switches1, control0, control3, fifos, is_stored, read_only, exists, has, TX_FLUSH, TX_START, SEND_HARD_RESET}
use Rattle.machine.specs.State.{State, reg}
use Rattle.machine.specs.Status.{tx_room}
use Rattle.machine.specs.Queue.{START, set_symbol, is_token, inside, is_message, is_some}
use Rattle.machine.specs.Requests.{opened, driver_on}
use Rattle.machine.specs.Events.{write}
use Rattle.machine.specs.Refusals.{tx_start, port_start, starts, sends_reset, to_be_stored, queue_at, refusal}
use Rattle.machine.proofs.Checking.{write_checks}
use Rattle.machine.proofs.Spelling.{spelt_nil}
use Rattle.fusb302.specs.declared.device.Cell.{Cell}
use Rattle.fusb302.specs.declared.device.Device.{Device}
use Rattle.fusb302.specs.declared.device.Request.{Request}
use Rattle.fusb302.specs.declared.bits.Place.{Place}
use Rattle.fusb302.specs.declared.bits.Place.TheVariants.{Id, Shown}
use Rattle.fusb302.specs.Places.{Placed}
use Rattle.fusb302.specs.Queued.{queued}
use Rattle.fusb302.specs.View.{request_of, view}
use Rattle.fusb302.specs.declared.refusals.No.{No}
use Rattle.fusb302.specs.declared.refusals.No.TheVariants.{NoSuchAddress, ReadOnly, RequestOpen, NotAToken, NotAMessage}
use Rattle.fusb302.specs.Serves.{no_of, sending_no, start_no, storing_no, Refuses}
use Rattle.fusb302.proofs.Showing.{queued_length}
use Rattle.fusb302.proofs.Answering.{is_id, is_shown, at_id, at_stored, at_shown}

-- ---- a start

-- its queue spells a message, and its driver is on
abbrev whole : Device → Bool
whole d = is_message (queued d.tx)

abbrev on : Device → Bool
on d = driver_on (get_or d.cells 1 0)

-- ---- the port

-- by whether a request is open, the octet falls inside a block, is a token, is start, and by whether the queue is full,
-- spells a message, and the driver is on
abbrev port_no : Bool → Bool → Bool → Bool → Bool → Bool → Bool → Option ℕ
port_no busy within token begin full whole on =
    cond busy (some 6)
    (cond (not within && not token) (some 3)
    (cond ((within || (token && not begin)) && full) (some 5)
    (cond (not within && begin && not whole) (some 4)
    (cond (not within && begin && not on) (some 7) none))))

port_checks : (s : State) (room v : ℕ) → frame_room ≤ room → refusal s (write room fifos v)
    ≡ port_no (opened s) (inside s.tx) (is_token v) (eqb v START) (leb tx_room (length s.tx)) (is_message s.tx) (driver_on (reg switches1 s))
unfolding exists is_stored read_only tx_start port_start starts sends_reset to_be_stored queue_at
port_checks s room v h = write_checks s room fifos v ∙ simp (le-ltb room frame_room h, or-false)

abbrev full : Device → Bool
full d = leb tx_room d.tx.len

-- a start, an octet that is no token, and an octet to be stored
start_no_lem : (full whole on : Bool) → port_no false false true true full whole on ≡ no_of (start_no whole on)
start_no_lem full true true = refl
start_no_lem full true false = refl
start_no_lem full false on = refl

bad_no : (within token begin full whole on : Bool) → (not within && not token) ≡ true
    → port_no false within token begin full whole on ≡ no_of (Err NotAToken)
bad_no false false begin full whole on h = refl
bad_no false true begin full whole on h = cc
bad_no true token begin full whole on h = cc

store_no : (within token begin full whole on : Bool) → (not within && begin) ≡ false → (not within && not token) ≡ false
    → port_no false within token begin full whole on ≡ no_of (storing_no full)
store_no true token begin true whole on h k = refl
store_no true token begin false whole on h k = refl
store_no false true false true whole on h k = refl
store_no false true false false whole on h k = refl
store_no false true true full whole on h k = cc
store_no false false begin full whole on h k = cc

none_inside : (n : ℕ) → not (ltb 0 n) ≡ eqb n 0
none_inside zero = refl
none_inside (suc n) = ap not (lt-ltb 0 (suc n) (omega arith)) ∙ sym (ne_eqb (suc n) 0 (omega arith))

-- an octet that is taken, and no start, finds room
room_left : (busy within token begin full whole on : Bool) → port_no busy within token begin full whole on ≡ none
    → (not within && begin) ≡ false → full ≡ false
room_left busy within token begin false whole on e k = refl
room_left true within token begin true whole on e k = cc
room_left false true token begin true whole on e k = cc
room_left false false false begin true whole on e k = cc
room_left false false true true true whole on e k = k
room_left false false true false true whole on e k = cc

opened_is : (d : Device) → opened (view d) ≡ rust.is_some d.request
opened_is d = go d.request
  where
    go : (o : rust.Option Request) → is_some (request_of o) ≡ rust.is_some o
    go (Some q) = refl
    go None = refl

module _ (d : Device) where
  outside : not (inside (queued d.tx)) ≡ eqb d.tx.left 0
  unfolding inside
  outside = ap (λ (n : ℕ). not (ltb 0 n)) (sym d.tx.counted) ∙ none_inside d.tx.left

  -- A1 at the port, where it is not data
  pub port_start_is : (v : ℕ) → port_start (view d) fifos v ≡ (eqb d.tx.left 0 && eqb v START)
  unfolding port_start
  port_start_is v = ap (λ (b : Bool). b && eqb v START) outside

  module _ (v : ℕ) where
    pub port_busy : rust.is_some d.request ≡ true → Refuses (view d) fifos v (Err RequestOpen)
    port_busy h = record { is = λ room r. port_checks (view d) room v r ∙ rw (opened_is d ∙ h) refl }

    module _ (free : rust.is_some d.request ≡ false) where
      at_port : (r : Result ⊤ No)
          → port_no false (inside (queued d.tx)) (is_token v) (eqb v START) (full d) (whole d) (on d) ≡ no_of r
          → Refuses (view d) fifos v r
      unfolding cell
      at_port r e =
          record {
            is = λ room h.
                port_checks (view d) room v h
                ∙ rw (opened_is d ∙ free, queued_length d.tx) e;
          }

      pub port_start_lem : (eqb d.tx.left 0 && eqb v START) ≡ true → (r : Result ⊤ No) → r ≡ start_no (whole d) (on d)
          → Refuses (view d) fifos v r
      unfolding is_token set_symbol
      port_start_lem h r e =
          let both = (and-eq-true_iff (eqb d.tx.left 0) (eqb v START)).0 h in
          at_port r
          (rw (not-true _ (outside ∙ both.0), ap is_token (eqb-true v START both.1), both.1)
          (start_no_lem (full d) (whole d) (on d) ∙ ap no_of (sym e)))

      pub port_bad : (eqb d.tx.left 0 && not (is_token v)) ≡ true → Refuses (view d) fifos v (Err NotAToken)
      port_bad h =
          at_port (Err NotAToken)
          (bad_no (inside (queued d.tx)) (is_token v) (eqb v START) (full d) (whole d) (on d)
          (ap (λ (b : Bool). b && not (is_token v)) outside ∙ h))

      pub port_store : (eqb d.tx.left 0 && eqb v START) ≡ false → (eqb d.tx.left 0 && not (is_token v)) ≡ false
          → (r : Result ⊤ No) → r ≡ storing_no (full d) → Refuses (view d) fifos v r
      port_store h k r e =
          at_port r
          (store_no (inside (queued d.tx)) (is_token v) (eqb v START) (full d) (whole d) (on d)
          (ap (λ (b : Bool). b && eqb v START) outside ∙ h) (ap (λ (b : Bool). b && not (is_token v)) outside ∙ k)
          ∙ ap no_of (sym e))

    pub port_room : Refuses (view d) fifos v (Ok tt) → (eqb d.tx.left 0 && eqb v START) ≡ false → d.tx.len < tx_room
    port_room taken h =
        let none_left : leb tx_room (length (queued d.tx)) ≡ false =
        room_left (opened (view d)) (inside (queued d.tx)) (is_token v) (eqb v START) _ (whole d) (driver_on (reg switches1 (view d)))
        (sym (port_checks (view d) frame_room v (omega arith)) ∙ taken.is frame_room (omega arith))
        (ap (λ (b : Bool). b && eqb v START) outside ∙ h) in
        let few = leb-false tx_room (length (queued d.tx)) none_left in
        omega (arith, queued_length d.tx)

-- ---- other addresses

module _ (s : State) (a v : ℕ) where
  pub refused_nowhere : exists a ≡ false → Refuses s a v (Err NoSuchAddress)
  refused_nowhere e = record { is = λ room h. write_checks s room a v ∙ rw (le-ltb room frame_room h, e) refl }

  read_only_lem : exists a ≡ true → read_only a ≡ true → Refuses s a v (Err ReadOnly)
  read_only_lem e k = record { is = λ room h. write_checks s room a v ∙ rw (le-ltb room frame_room h, e, k) refl }

  module _ (p : Place) (placed : Placed a (Some p)) where
    at_id_lem : p ≡ Id → Refuses s a v (Err ReadOnly)
    unfolding read_only
    at_id_lem k = let e = is_id a p placed k in read_only_lem (at_id a e).0 (rw e refl)

    at_shown_lem : p ≡ Shown → Refuses s a v (Err ReadOnly)
    unfolding read_only
    at_shown_lem k =
        let h = is_shown a p placed k in
        let w = at_shown a h.0 h.1 in
        read_only_lem w.0 (rw (w.3, le-leb 0x3C a h.0, le-leb a 0x42 h.1) refl)

    pub refused_read_only : (p ≡ Id) ⊎ (p ≡ Shown) → Refuses s a v (Err ReadOnly)
    refused_read_only (inl k) = at_id_lem k
    refused_read_only (inr k) = at_shown_lem k

-- ---- stored registers

-- by whether the write is a start or sends a Hard Reset, a request is open, the queue that the start finds is a message,
-- and the driver is on
abbrev register_no : Bool → Bool → Bool → Bool → Bool → Option ℕ
register_no start reset busy whole on =
    cond (start && busy) (some 6) (cond (start && not whole) (some 4) (cond ((start || reset) && not on) (some 7) none))

module _ (s : State) (a v : ℕ) (lo : 2 ≤ a) (hi : a ≤ 0x10) where
  register_checks : (room : ℕ) → frame_room ≤ room → refusal s (write room a v)
      ≡ register_no (tx_start a v) (sends_reset a v) (opened s) (is_message (queue_at s a v)) (driver_on (reg switches1 s))
  unfolding port_start starts to_be_stored read_only
  register_checks room h =
      let w = at_stored a lo hi in
      write_checks s room a v ∙ simp (le-ltb room frame_room h, w.0, w.1, w.3, lt-leb 0x3C a (omega arith), or-false)

  -- no start, and no Hard Reset
  quiet : tx_start a v ≡ false → sends_reset a v ≡ false → Refuses s a v (Ok tt)
  quiet p q = record { is = λ room h. register_checks room h ∙ rw (p, q) refl }

  no_command : (a ≡ control0 → ⊥) → (a ≡ control3 → ⊥) → Refuses s a v (Ok tt)
  unfolding tx_start sends_reset
  no_command p q = quiet (rw (ne_eqb _ _ p) refl) (rw (ne_eqb _ _ q) refl)

pub not_command : (s : State) (c : Cell) (v : ℕ) → (c.at ≡ 4 → ⊥) → (c.at ≡ 7 → ⊥) → Refuses s (c.at + 2) v (Ok tt)
not_command s c v p q =
    let less = c.among in no_command s (c.at + 2) v (omega arith) (omega arith) (λ e. p (omega arith)) (λ e. q (omega arith))

-- Control0 and Control3
module _ (d : Device) (v : ℕ) where
  pub control0_quiet : has TX_START v ≡ false → Refuses (view d) control0 v (Ok tt)
  unfolding tx_start sends_reset
  control0_quiet h = quiet (view d) control0 v (omega arith) (omega arith) h refl

  pub control3_quiet : has SEND_HARD_RESET v ≡ false → Refuses (view d) control3 v (Ok tt)
  unfolding tx_start sends_reset
  control3_quiet h = quiet (view d) control3 v (omega arith) (omega arith) refl h

  pub control3_sends : has SEND_HARD_RESET v ≡ true → (r : Result ⊤ No) → r ≡ sending_no (on d) → Refuses (view d) control3 v r
  unfolding tx_start sends_reset cell
  control3_sends h r e =
      record {
        is = λ room x.
            register_checks (view d) control3 v (omega arith) (omega arith) room x ∙ rw h (sending (on d)) ∙ ap no_of (sym e);
      }
    where
      sending : (b : Bool) → cond {A = Option ℕ} (not b) (some 7) none ≡ no_of (sending_no b)
      sending true = refl
      sending false = refl

  module _ (h : has TX_START v ≡ true) where
    at_start : (r : Result ⊤ No) (busy flush : Bool) → rust.is_some d.request ≡ busy → has TX_FLUSH v ≡ flush
        → cond busy (some 6) (cond (not (is_message (cond flush [] (queued d.tx)))) (some 4) (cond (not (on d)) (some 7) none)) ≡ no_of r
        → Refuses (view d) control0 v r
    unfolding tx_start sends_reset queue_at cell
    at_start r busy flush p q e =
        record { is = λ room x. register_checks (view d) control0 v (omega arith) (omega arith) room x ∙ rw (h, opened_is d ∙ p, q) e }

    pub control0_busy : rust.is_some d.request ≡ true → Refuses (view d) control0 v (Err RequestOpen)
    control0_busy p = at_start (Err RequestOpen) true (has TX_FLUSH v) p refl refl

    pub control0_flush : rust.is_some d.request ≡ false → has TX_FLUSH v ≡ true → Refuses (view d) control0 v (Err NotAMessage)
    control0_flush p q = at_start (Err NotAMessage) false true p q (rw spelt_nil refl)

    pub control0_start : rust.is_some d.request ≡ false → has TX_FLUSH v ≡ false → (r : Result ⊤ No)
        → r ≡ start_no (whole d) (on d) → Refuses (view d) control0 v r
    control0_start p q r e = at_start r false false p q (start_no_lem false (whole d) (on d) ∙ ap no_of (sym e))

  -- a start that is taken flushes nothing
  no_flush_at : Refuses (view d) control0 v (Ok tt) → has TX_START v ≡ true → has TX_FLUSH v ≡ false
  unfolding tx_start sends_reset queue_at
  no_flush_at taken h =
      go (has TX_FLUSH v) (opened (view d)) _
      (rw h at (sym (register_checks (view d) control0 v (omega arith) (omega arith) frame_room (omega arith)) ∙ taken.is frame_room (omega arith)))
    where
      go : (flush busy : Bool) (o : Option ℕ)
          → cond busy (some 6) (cond (not (is_message (cond flush [] (queued d.tx)))) (some 4) o) ≡ none → flush ≡ false
      go false busy o e = refl
      go true true o e = cc
      go true false o e = let z : ◌≡◌ {A = Option ℕ} (some 4) none = rw spelt_nil at e in cc

  pub no_flush : (c : Cell) → c.at ≡ 4 → Refuses (view d) (c.at + 2) v (Ok tt) → has TX_START v ≡ true → has TX_FLUSH v ≡ false
  no_flush c e taken h = let a : c.at + 2 ≡ control0 = omega arith in no_flush_at (rw a at taken) h
