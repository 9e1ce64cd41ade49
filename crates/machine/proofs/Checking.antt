-- The checks that each kind of event meets, in the table's order.
-- Assumes nothing.
use mathlib.Core.Path.{◌≡◌, refl}
use mathlib.Core.Bool.{false, not, cond, ◌&&◌, ◌||◌}
use mathlib.Core.List.{List}
use mathlib.Core.Option.{none, some}
use Prim.Native.Nat.{ℕ}
use lib.Dec.{ltb, leb, eqb}
use lib.ListN.{length}
use Rattle.line.specs.Refusal.{first_no}
use Rattle.line.specs.Write.{frame_room}
use Rattle.machine.specs.Registers.{switches1, fifos, read_only, exists}
use Rattle.machine.specs.State.{State, reg}
use Rattle.machine.specs.Status.{tx_room}
use Rattle.machine.specs.Queue.{inside, is_token, is_message}
use Rattle.machine.specs.Requests.{opened, driver_on}
use Rattle.machine.specs.Events.{write, read, pass, hard_reset, packet, sense}
use Rattle.machine.specs.Refusals.{
  tx_start,
  starts,
  sends_reset,
  to_be_stored,
  queue_at,
  no12,
  no1,
  no2,
  no6,
  no3,
  no5,
  no4,
  no7,
  no8,
  no11,
  no9,
  no10,
  refusal,
}

module _ (s : State) (room : ℕ) where
  pub read_checks : (a : ℕ)
      → refusal s (read room a)
      ≡ cond (ltb room frame_room) (some 12) (cond (not (exists a)) (some 1) (cond (eqb a fifos && eqb (length s.rx) 0) (some 8) none))
  unfolding refusal first_no no12 no1 no2 no6 no3 no5 no4 no7 no8 no11 no9 no10
  read_checks a = refl

  pub pass_checks : (n : ℕ) → refusal s (pass room n) ≡ cond (ltb room frame_room) (some 12) (cond (ltb 1000 n) (some 10) none)
  unfolding refusal first_no no12 no1 no2 no6 no3 no5 no4 no7 no8 no11 no9 no10
  pass_checks n = refl

  pub reset_checks : refusal s (hard_reset room) ≡ cond (ltb room frame_room) (some 12) none
  unfolding refusal first_no no12 no1 no2 no6 no3 no5 no4 no7 no8 no11 no9 no10
  reset_checks = refl

  pub sense_checks : (x y z : ℕ) → refusal s (sense room x y z) ≡ cond (ltb room frame_room) (some 12) none
  unfolding refusal first_no no12 no1 no2 no6 no3 no5 no4 no7 no8 no11 no9 no10
  sense_checks x y z = refl

  pub packet_checks : (k : ℕ) (m : List ℕ)
      → refusal s (packet room k m)
      ≡ cond (ltb room frame_room) (some 12) (cond (ltb 4 k) (some 11) (cond (ltb (length m) 6 || ltb 34 (length m)) (some 9) none))
  unfolding refusal first_no no12 no1 no2 no6 no3 no5 no4 no7 no8 no11 no9 no10
  packet_checks k m = refl

  pub write_checks : (a v : ℕ)
      → refusal s (write room a v)
      ≡ cond (ltb room frame_room) (some 12)
      (cond (not (exists a) || false) (some 1)
      (cond (read_only a) (some 2)
      (cond ((eqb a fifos || tx_start a v) && opened s) (some 6)
      (cond (eqb a fifos && (not (inside s.tx) && not (is_token v))) (some 3)
      (cond (to_be_stored s a v && leb tx_room (length s.tx)) (some 5)
      (cond (starts s a v && not (is_message (queue_at s a v))) (some 4)
      (cond ((starts s a v || sends_reset a v) && not (driver_on (reg switches1 s))) (some 7) none)))))))
  unfolding refusal first_no no12 no1 no2 no6 no3 no5 no4 no7 no8 no11 no9 no10
  write_checks a v = refl
