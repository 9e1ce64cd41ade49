-- Reads and a Hard Reset heard: the answer of each way out.
-- Assumes nothing.
use mathlib.Core.Path.{◌≡◌, refl, ap, ◌∙◌, subst}
use mathlib.Core.Bool.{true, false, cond, ◌&&◌}
use mathlib.Core.List.{List, [], ◌∷◌}
use Prim.Native.Nat.{ℕ, suc, ◌+◌, ◌-◌, ◌<◌, ◌≤◌}
use native.Mathlib.Omega.{arith}
use borrow.Author.Tests.{lt-ltb, le-ltb, le-leb, lt-leb, ne_eqb}
use lib.Dec.{leb, eqb}
use lib.ListN.{length, get_or}
use Rattle.line.specs.Frame.{joined}
use Rattle.line.specs.Write.{frame_room}
use Rattle.machine.specs.Registers.{cell, fifos, device_id, status0a, interrupta, interruptb, interrupt, is_stored, read_only, exists}
use Rattle.machine.specs.Status.{shown, cleared_at}
use Rattle.machine.specs.State.{with_rx, with_ints}
use Rattle.machine.specs.Requests.{hard_reset_heard}
use Rattle.machine.specs.Events.{read, hard_reset, value}
use Rattle.machine.specs.Step.{accepted, reply_to, read_value, after_read}
use Rattle.machine.proofs.Checking.{read_checks, reset_checks}
use Rattle.fusb302.specs.declared.bits.Place.{Place}
use Rattle.fusb302.specs.declared.bits.Place.TheVariants.{Id, Stored, Shown, Port}
use Rattle.fusb302.specs.declared.device.Cell.{Cell}
use Rattle.fusb302.specs.declared.fifo.Fifo.{Fifo}
use Rattle.fusb302.specs.declared.device.Device.{Device}
use Rattle.fusb302.specs.declared.device.Outcome.{Outcome}
use Rattle.std.specs.Prelude.{Option, Some, None, Ok, Err}
use Rattle.fusb302.specs.declared.refusals.No.TheVariants.{SmallBuffer, NoSuchAddress, NothingHeld}
use Rattle.fusb302.specs.Places.{Placed}
use Rattle.fusb302.specs.Held.{held}
use Rattle.fusb302.specs.View.{ints_of, view, Arranged, Asks}
use Rattle.fusb302.specs.Serves.{Serves, PortRead}
use Rattle.fusb302.proofs.Serving.{serves_no, serves_yes}
use Rattle.fusb302.proofs.Showing.{arranged}

-- ---- reads

module _ (d : Device) (asks : Asks d) (before : List ℕ) (a : ℕ) where
  pub read_small : length before < frame_room → Serves (read (length before) a) d before (record { device = d; reply = Err SmallBuffer; count = 0 }) before
  read_small h = serves_no (read (length before) a) d before asks SmallBuffer (read_checks (view d) (length before) a ∙ simp (lt-ltb (length before) frame_room h))

  module _ (room : frame_room ≤ length before) where
    pub read_nowhere : exists a ≡ false → Serves (read (length before) a) d before (record { device = d; reply = Err NoSuchAddress; count = 0 }) before
    read_nowhere h =
        serves_no (read (length before) a) d before asks NoSuchAddress
        (read_checks (view d) (length before) a ∙ simp (le-ltb (length before) frame_room room, h))

    -- a read that is taken gives an octet, sends nothing, and leaves a device
    read_gives : exists a ≡ true → (eqb a fifos && eqb (length (view d).rx) 0) ≡ false → a < 256 → (v : ℕ) (t : Device) → Arranged t
        → view t ≡ after_read a (view d) → v ≡ read_value a (view d)
        → Serves (read (length before) a) d before (record { device = t; reply = Ok (Some v); count = 0 }) before
    unfolding accepted reply_to joined
    read_gives h k small v t arranged p q =
        serves_yes (read (length before) a) d before asks
        (read_checks (view d) (length before) a ∙ simp (le-ltb (length before) frame_room room, h, k)) small
        (record { device = t; reply = Ok (Some v); count = 0 }) before arranged p (ap value q) refl refl

    -- reads of other addresses than the port
    module _ (other : eqb a fifos ≡ false) (there : exists a ≡ true) (small : a < 256) where
      read_of : (v : ℕ) (t : Device) → view t ≡ with_ints (cleared_at a (ints_of d.ints)) (view d)
          → v ≡ cond (eqb a device_id) 0x91 (cond (is_stored a) (get_or d.cells (a - 2) 0) (get_or (shown (view d)) (a - status0a) 0))
          → Serves (read (length before) a) d before (record { device = t; reply = Ok (Some v); count = 0 }) before
      unfolding after_read read_value cell
      read_of v t p q = read_gives there (rw other refl) small v t (arranged t) (rw other p) (rw other q)

-- ---- what stands at an address

pub is_id : (a : ℕ) (p : Place) → Placed a (Some p) → p ≡ Id → a ≡ device_id
unfolding Placed
is_id a p h e = subst (λ (x : Place). Placed a (Some x)) e h

pub is_stored_lem : (a : ℕ) (p : Place) (c : Cell) → Placed a (Some p) → p ≡ Stored c → a ≡ c.at + 2
unfolding Placed
is_stored_lem a p c h e = subst (λ (x : Place). Placed a (Some x)) e h

pub is_shown : (a : ℕ) (p : Place) → Placed a (Some p) → p ≡ Shown → (0x3C ≤ a) × (a ≤ 0x42)
unfolding Placed
is_shown a p h e = subst (λ (x : Place). Placed a (Some x)) e h

pub is_port : (a : ℕ) (p : Place) → Placed a (Some p) → p ≡ Port → a ≡ fifos
unfolding Placed
is_port a p h e = subst (λ (x : Place). Placed a (Some x)) e h

pub is_nowhere : (a : ℕ) (o : Option Place) → Placed a o → o ≡ None → exists a ≡ false
unfolding Placed
is_nowhere a o h e = subst (Placed a) e h

pub at_id : (a : ℕ) → a ≡ device_id → (exists a ≡ true) × (eqb a fifos ≡ false)
unfolding exists is_stored read_only
at_id a e = (rw e refl, rw e refl)

pub at_stored : (a : ℕ) → 2 ≤ a → a ≤ 0x10 → (exists a ≡ true) × (eqb a fifos ≡ false) × (is_stored a ≡ true) × (eqb a device_id ≡ false)
unfolding exists is_stored
at_stored a lo hi =
    (rw (le-leb 2 a lo, le-leb a 0x10 hi) refl, ne_eqb a fifos (λ e. omega arith), rw (le-leb 2 a lo, le-leb a 0x10 hi) refl, ne_eqb a device_id (λ e. omega arith))

pub at_shown : (a : ℕ) → 0x3C ≤ a → a ≤ 0x42 → (exists a ≡ true) × (eqb a fifos ≡ false) × (is_stored a ≡ false) × (eqb a device_id ≡ false)
unfolding exists is_stored read_only
at_shown a lo hi =
    let low : leb a 0x10 ≡ false = lt-leb a 0x10 (omega arith) in
    let two : leb 2 a ≡ true = le-leb 2 a (omega arith) in
    let one : eqb a device_id ≡ false = ne_eqb a device_id (λ e. omega arith) in
    (rw (two, low, one, le-leb 0x3C a lo, le-leb a 0x42 hi) refl, ne_eqb a fifos (λ e. omega arith), rw (two, low) refl, one)

-- ---- the port

module _ (d : Device) (asks : Asks d) where
  pub port_empty : held d.rx ≡ [] → PortRead d (record { device = d; reply = Err NothingHeld; count = 0 })
  unfolding exists is_stored read_only
  port_empty h =
      record {
        serves = λ before room.
            serves_no (read (length before) fifos) d before asks NothingHeld
            (read_checks (view d) (length before) fifos ∙ simp (le-ltb (length before) frame_room room, h));
      }

  pub port_read : (v : ℕ) (f : Fifo) → held d.rx ≡ v ∷ held f → (t : Device) → view t ≡ with_rx (held f) (view d)
      → PortRead d (record { device = t; reply = Ok (Some v); count = 0 })
  unfolding exists is_stored read_only after_read read_value
  port_read v f h t p =
      record {
        serves = λ before room. read_gives d asks before fifos room refl (rw h (ne_eqb (suc (length (held f))) 0 (λ e. omega arith))) (omega arith) v t (arranged t) (rw h p) (rw h refl);
      }

-- ---- a Hard Reset heard

module _ (d : Device) (asks : Asks d) (before : List ℕ) where
  pub reset_small : length before < frame_room → Serves (hard_reset (length before)) d before (record { device = d; reply = Err SmallBuffer; count = 0 }) before
  reset_small h =
      serves_no (hard_reset (length before)) d before asks SmallBuffer (reset_checks (view d) (length before) ∙ simp (lt-ltb (length before) frame_room h))

  pub reset_heard : frame_room ≤ length before → (t : Device) → Arranged t → view t ≡ hard_reset_heard (view d)
      → Serves (hard_reset (length before)) d before (record { device = t; reply = Ok None; count = 0 }) before
  unfolding accepted reply_to joined
  reset_heard room t arranged p =
      serves_yes (hard_reset (length before)) d before asks
      (reset_checks (view d) (length before) ∙ simp (le-ltb (length before) frame_room room)) tt
      (record { device = t; reply = Ok None; count = 0 }) before arranged p refl refl refl

-- ---- reads of an address

module _ (d : Device) (asks : Asks d) (before : List ℕ) (room : frame_room ≤ length before) (a : ℕ) where
  nothing_cleared : eqb a interrupta ≡ false → eqb a interruptb ≡ false → eqb a interrupt ≡ false
      → view d ≡ with_ints (cleared_at a (ints_of d.ints)) (view d)
  unfolding cleared_at
  nothing_cleared p q r = rw (p, q, r) refl

  module _ (p : Place) (placed : Placed a (Some p)) where
    pub read_id : p ≡ Id → Serves (read (length before) a) d before (record { device = d; reply = Ok (Some 0x91); count = 0 }) before
    read_id k =
        let e = is_id a p placed k in
        let w = at_id a e in
        read_of d asks before a room w.1 w.0 (omega arith) 0x91 d
        (nothing_cleared (rw e refl) (rw e refl) (rw e refl)) (rw e refl)

    pub read_stored : (c : Cell) → p ≡ Stored c
        → Serves (read (length before) a) d before (record { device = d; reply = Ok (Some (get_or d.cells c.at 0)); count = 0 }) before
    read_stored c k =
        let e = is_stored_lem a p c placed k in
        let less = c.among in
        let w = at_stored a (omega arith) (omega arith) in
        let at : a - 2 ≡ c.at = omega arith in
        read_of d asks before a room w.1 w.0 (omega arith) (get_or d.cells c.at 0) d
        (nothing_cleared (ne_eqb a interrupta (λ e. omega arith)) (ne_eqb a interruptb (λ e. omega arith)) (ne_eqb a interrupt (λ e. omega arith)))
        (rw (w.3, w.2, at) refl)

    pub read_shown : p ≡ Shown → (v : ℕ) (t : Device) → v ≡ get_or (shown (view d)) (a - status0a) 0
        → view t ≡ with_ints (cleared_at a (ints_of d.ints)) (view d)
        → Serves (read (length before) a) d before (record { device = t; reply = Ok (Some v); count = 0 }) before
    read_shown k v t q x =
        let h = is_shown a p placed k in
        let w = at_shown a h.0 h.1 in
        read_of d asks before a room w.1 w.0 (omega arith) v t x (rw (w.3, w.2) q)

    pub read_at_port : p ≡ Port → (r : Outcome) → PortRead d r → Serves (read (length before) a) d before r before
    read_at_port k r x = rw (is_port a p placed k) (x.serves before room)
