-- What attach code waits on: what 40 shows of the pins at and about every threshold, and what 42 reports of it (02, A1).
-- Assumes nothing.
use mathlib.Core.Path.{◌≡◌, refl, sym, ap, ap₂, ◌∙◌}
use mathlib.Core.Bool.{Bool, true, false, not, cond, ◌&&◌, ◌||◌, and-eq-true_iff, or-false, and-false, true≢false}
use mathlib.Core.List.{[]}
use mathlib.Core.Logic.{◌↔◌, ⊎_elim}
use mathlib.Core.Option.{Option, none, some}
use Prim.Native.Nat.{ℕ, zero, suc, ◌+◌, ◌*◌, ◌≤◌}
use native.Mathlib.Omega.{arith}
use borrow.Author.Tests.{eqb-true, eqb-false, eq-eqb, ne_eqb, leb-true, le-leb, lt-leb, le-ltb}
use lib.Bits.{bit_and, bit_or, or_add_and, and_le_r, and_mask}
use lib.Dec.{ltb, leb, eqb}
use lib.ListN.{drop}
use Rattle.line.specs.Refusal.{first_no}
use Rattle.line.specs.Write.{frame_room}
use Rattle.machine.specs.Registers.{switches0, measure, power, reset, interrupt, fifos, cell, is_stored, read_only, exists, has, MEAS_VBUS, MDAC, PWR2}
use Rattle.machine.specs.State.{Pins, State, power_up, reg, with_rx, with_ints, with_pins}
use Rattle.machine.specs.Pins.{above, levels, one_pin, measured, steps, steps_of, bc_lvl_of, comp_of, Readings, readings}
use Rattle.machine.specs.Status.{VBUSOK, COMP, CRC_CHK, ALERT, BC_LVL, I_VBUSOK, I_COMP_CHNG, I_BC_LVL, flag, differ, changes, reports, status0_of, rx_full, tx_full, cleared_at}
use Rattle.machine.specs.Requests.{hard_reset_heard}
use Rattle.machine.specs.Events.{Event, write, read, pass, hard_reset, packet, sense, done, no, on_read}
use Rattle.machine.specs.Refusals.{tx_start, port_start, starts, sends_reset, to_be_stored, no12, no1, no2, no6, no3, no5, no4, no7, no8, no11, no9, no10, refusal}
use Rattle.machine.specs.Step.{restored, reset_written, accepted, reply_to, after_read, senses, writes, written, result_of, step}
use Rattle.machine.specs.Theorems.{is_other, Measuring, bc_lvl_shown, code, ShownExactly, pin_status, pin_interrupts, Reported, AllReported, InterruptsExactly, VoltagesOnly, SwResKeepsVoltages}
use Rattle.machine.proofs.Masks.{and_or, and_assoc}
use Rattle.machine.proofs.Checking.{sense_checks}
use Rattle.machine.proofs.Comparing.{changes_within, Kept, kept, shows_same, passes_kept, hears_kept, writes_main, reset_written_lem}

-- ---- 40 by its bits

-- of all flags
every : (Bool → Bool) → Bool
every f = f true && f false

each : (f : Bool → Bool) → every f ≡ true → (b : Bool) → f b ≡ true
unfolding every
each f h true = ((and-eq-true_iff (f true) (f false)).0 h).0
each f h false = ((and-eq-true_iff (f true) (f false)).0 h).1

abbrev status0 : (a b c d : Bool) → ℕ → ℕ
status0 a b c d n = flag VBUSOK a + (flag COMP b + (flag CRC_CHK c + (flag ALERT d + n)))

-- a part of 40, whatever its other bits are
part : (m : ℕ) (of : Bool → Bool → ℕ → ℕ) → ℕ → Bool
part m of n = every (λ a. every (λ b. every (λ c. every (λ d. eqb (bit_and (status0 a b c d n) m) (of a b n)))))

in_part : (m : ℕ) (of : Bool → Bool → ℕ → ℕ) (n : ℕ) → part m of n ≡ true → (a b c d : Bool) → bit_and (status0 a b c d n) m ≡ of a b n
unfolding part
in_part m of n h a b c d =
    eqb-true _ _ (each (λ d. eqb (bit_and (status0 a b c d n) m) (of a b n))
    (each (λ c. every (λ d. eqb (bit_and (status0 a b c d n) m) (of a b n)))
    (each (λ b. every (λ c. every (λ d. eqb (bit_and (status0 a b c d n) m) (of a b n))))
    (each (λ a. every (λ b. every (λ c. every (λ d. eqb (bit_and (status0 a b c d n) m) (of a b n))))) h a) b) c) d)

by_level : (f : ℕ → Bool) → f 0 ≡ true → f 1 ≡ true → f 2 ≡ true → f 3 ≡ true → (n : ℕ) → n ≤ 3 → f n ≡ true
by_level f p q r s zero h = p
by_level f p q r s (suc zero) h = q
by_level f p q r s (suc (suc zero)) h = r
by_level f p q r s (suc (suc (suc zero))) h = s
by_level f p q r s (suc (suc (suc (suc n)))) h = absurd (omega arith)

few_steps : (o : Option ℕ) → steps_of o ≤ 3
few_steps none = omega arith
few_steps (some v) = go (above 200 v) (above 660 v) (above 1230 v)
  where
    one : (b : Bool) → cond b 1 0 ≤ 1
    one true = omega arith
    one false = omega arith

    go : (a b c : Bool) → cond a 1 0 + (cond b 1 0 + (cond c 1 0 + 0)) ≤ 3
    go a b c = omega (arith, one a, one b, one c)

few : (s : State) → (readings s).bc_lvl ≤ 3
unfolding readings bc_lvl_of
few s = go (has PWR2 (reg power s))
  where
    go : (b : Bool) → cond b (steps_of (measured (reg switches0 s) s.pins)) 0 ≤ 3
    go true = few_steps (measured (reg switches0 s) s.pins)
    go false = omega arith

module _ (s : State) where
  shown_part : (m : ℕ) (of : Bool → Bool → ℕ → ℕ) → part m of 0 ≡ true → part m of 1 ≡ true → part m of 2 ≡ true → part m of 3 ≡ true
      → bit_and (status0_of s) m ≡ of (readings s).vbus_ok (readings s).comp (readings s).bc_lvl
  unfolding status0_of
  shown_part m of p q r t =
      in_part m of (readings s).bc_lvl (by_level (part m of) p q r t (readings s).bc_lvl (few s)) (readings s).vbus_ok (readings s).comp
      s.status.crc_chk (rx_full s || tx_full s)

  vbusok_shown : bit_and (status0_of s) VBUSOK ≡ flag VBUSOK (readings s).vbus_ok
  unfolding part every
  vbusok_shown = shown_part VBUSOK (λ a b n. flag VBUSOK a) refl refl refl refl

  comp_shown : bit_and (status0_of s) COMP ≡ flag COMP (readings s).comp
  unfolding part every
  comp_shown = shown_part COMP (λ a b n. flag COMP b) refl refl refl refl

  level_shown : bc_lvl_shown s ≡ (readings s).bc_lvl
  unfolding part every
  level_shown = shown_part BC_LVL (λ a b n. n) refl refl refl refl

-- ---- 1. Thresholds

-- the flag of a test, and the test
flagged : (m : ℕ) → eqb m 0 ≡ false → (b : Bool) → not (eqb (flag m b) 0) ≡ b
flagged m e true = ap not e
flagged m e false = refl

tested : (b : Bool) (t v : ℕ) → b ≡ leb t v → (b ≡ true) ↔ (t ≤ v)
tested b t v e = (λ h. leb-true t v (sym e ∙ h), λ h. e ∙ le-leb t v h)

module _ (s : State) where
  has_comp : has COMP (status0_of s) ≡ (readings s).comp
  unfolding has
  has_comp = ap (λ (x : ℕ). not (eqb x 0)) (comp_shown s) ∙ flagged COMP refl (readings s).comp

  has_vbusok : has VBUSOK (status0_of s) ≡ (readings s).vbus_ok
  unfolding has
  has_vbusok = ap (λ (x : ℕ). not (eqb x 0)) (vbusok_shown s) ∙ flagged VBUSOK refl (readings s).vbus_ok

  the_code : bit_and (reg measure s) MDAC ≡ code s
  the_code = and_mask (reg measure s) 6

  -- the pin that is measured
  module _ (v : ℕ) (m : Measuring s v) where
    one_pin_lem : measured (reg switches0 s) s.pins ≡ some v
    unfolding one_pin
    one_pin_lem = ⊎_elim (λ h. simp (h.0, h.1, h.2)) (λ h. simp (h.0, h.1, h.2)) m.pin

    level_of : bc_lvl_shown s ≡ steps levels v
    unfolding readings bc_lvl_of
    level_of = level_shown s ∙ simp (m.on, one_pin_lem)

    comp_of_lem : has MEAS_VBUS (reg measure s) ≡ false → has COMP (status0_of s) ≡ leb (42 * (code s + 1)) v
    unfolding readings comp_of
    comp_of_lem e = has_comp ∙ simp (m.on, e, one_pin_lem, the_code, or-false)

-- no MEAS_CC, or both
no_pin : (b : Bool) (p : Pins) → one_pin b b p ≡ none
unfolding one_pin
no_pin true p = refl
no_pin false p = refl

either : (b : Bool) → cond {A = ℕ} b 0 0 ≡ 0
either true = refl
either false = refl

pub shown_exactly : ShownExactly
unfolding readings bc_lvl_of comp_of one_pin
shown_exactly =
    record {
      level_0 = λ s v m h. level_of s v m ∙ simp (lt-leb 200 v h, lt-leb 660 v (omega arith), lt-leb 1230 v (omega arith));
      level_1 = λ s v m h k. level_of s v m ∙ simp (le-leb 200 v h, lt-leb 660 v k, lt-leb 1230 v (omega arith));
      level_2 = λ s v m h k. level_of s v m ∙ simp (le-leb 200 v (omega arith), le-leb 660 v h, lt-leb 1230 v k);
      level_3 = λ s v m h. level_of s v m ∙ simp (le-leb 200 v (omega arith), le-leb 660 v (omega arith), le-leb 1230 v h);
      comp_cc = λ s v m e. tested _ (42 * (code s + 1)) v (comp_of_lem s v m e);
      comp_vbus = λ s on vbus x y. tested _ (420 * (code s + 1)) s.pins.vbus (has_comp s ∙ simp (on, vbus, x, y, the_code s));
      vbusok = λ s. tested _ 4000 s.pins.vbus (has_vbusok s);
      off = λ s e. (level_shown s ∙ simp e, has_comp s ∙ simp e);
      not_one = λ s e. (level_shown s ∙ simp (e, no_pin, either), λ m. has_comp s ∙ simp (m, e, no_pin, and-false));
      vbus_and_cc = λ s m e. has_comp s ∙ simp (m, e, and-false);
    }

-- ---- 2. Interrupts

or_has : (m x y : ℕ) → has m (bit_or x y) ≡ (has m x || has m y)
unfolding has
or_has m x y = ap (λ (z : ℕ). not (eqb z 0)) (and_or x y m) ∙ go (bit_and x m) (bit_and y m)
  where
    go : (a b : ℕ) → not (eqb (bit_or a b) 0) ≡ (not (eqb a 0) || not (eqb b 0))
    go zero b = refl
    go (suc a) b =
        simp (ne_eqb (suc a) 0 (λ e. omega arith), ne_eqb (bit_or (suc a) b) 0 (λ e. omega (arith, or_add_and (suc a) b, and_le_r (suc a) b)))

-- of bits that stay together each one stays
has_part : (p m x y : ℕ) → bit_and p m ≡ m → bit_and x p ≡ bit_and y p → has m x ≡ has m y
unfolding has
has_part p m x y e h = ap (λ (z : ℕ). not (eqb z 0)) (sym (one x) ∙ ap (λ (z : ℕ). bit_and z m) h ∙ one y)
  where
    one : (z : ℕ) → bit_and (bit_and z p) m ≡ bit_and z m
    one z = and_assoc z p m ∙ ap (bit_and z) e

-- two flags differ as what they show does
flags_differ : (m : ℕ) → eqb m 0 ≡ false → (a b : Bool) → not (eqb (flag m a) (flag m b)) ≡ differ a b
flags_differ m e true true = ap not (eq-eqb m m refl)
flags_differ m e true false = ap not e
flags_differ m e false true = ap not (ne_eqb 0 m (λ z. eqb-false m 0 e (sym z)))
flags_differ m e false false = refl

changed_bits : (a b c : Bool)
    → let x = flag I_VBUSOK a + (flag I_COMP_CHNG b + flag I_BC_LVL c) in
    (has I_VBUSOK x ≡ a) × (has I_COMP_CHNG x ≡ b) × (has I_BC_LVL x ≡ c)
unfolding has
changed_bits true true true = (refl, refl, refl)
changed_bits true true false = (refl, refl, refl)
changed_bits true false true = (refl, refl, refl)
changed_bits true false false = (refl, refl, refl)
changed_bits false true true = (refl, refl, refl)
changed_bits false true false = (refl, refl, refl)
changed_bits false false true = (refl, refl, refl)
changed_bits false false false = (refl, refl, refl)

all_reported : (s t : State) → bit_and t.ints.main pin_interrupts ≡ bit_and s.ints.main pin_interrupts → AllReported s (reports s t)
unfolding changes status0_of readings
all_reported s t h =
    let x = readings s in
    let y = readings t in
    let bits = changed_bits (differ x.vbus_ok y.vbus_ok) (differ x.comp y.comp) (not (eqb x.bc_lvl y.bc_lvl)) in
    let reported : (i m : ℕ) (b : Bool) → bit_and pin_interrupts i ≡ i → has i (changes x y) ≡ b
    → not (eqb (bit_and (status0_of s) m) (bit_and (status0_of t) m)) ≡ b → Reported i m s (reports s t) =
    λ i m b e p q. or_has i t.ints.main (changes x y) ∙ ap₂ ◌||◌ (has_part pin_interrupts i t.ints.main s.ints.main e h) (p ∙ sym q) in
    record {
      i_vbusok = reported I_VBUSOK VBUSOK _ refl bits.0 (ap₂ (λ (a b : ℕ). not (eqb a b)) (vbusok_shown s) (vbusok_shown t) ∙ flags_differ VBUSOK refl x.vbus_ok y.vbus_ok);
      i_comp_chng = reported I_COMP_CHNG COMP _ refl bits.1 (ap₂ (λ (a b : ℕ). not (eqb a b)) (comp_shown s) (comp_shown t) ∙ flags_differ COMP refl x.comp y.comp);
      i_bc_lvl = reported I_BC_LVL BC_LVL _ refl bits.2 (ap₂ (λ (a b : ℕ). not (eqb a b)) (level_shown s) (level_shown t));
    }

-- what an event keeps that is neither a write nor one of voltages
record Stays (s : State) (e : Event) (t : State) : Type 0 where
  shown : readings t ≡ readings s
  reported : on_read (λ a. eqb a interrupt) e ≡ false → bit_and t.ints.main pin_interrupts ≡ bit_and s.ints.main pin_interrupts

by_kept : (s : State) (e : Event) (t : State) → kept t ≡ kept s → Stays s e t
by_kept s e t k = record { shown = shows_same s t k; reported = λ h. ap (λ (x : Kept). x.main) k }

read_stays : (s : State) (r a : ℕ) → Stays s (read r a) (after_read a s)
unfolding after_read cleared_at readings
read_stays s r a = go (eqb a fifos)
  where
    go : (b : Bool) → Stays s (read r a) (cond b (with_rx (drop 1 s.rx) s) (with_ints (cleared_at a s.ints) s))
    go true = record { shown = refl; reported = λ h. refl }
    go false = record { shown = refl; reported = λ h. simp h }

other_stays : (s : State) (e : Event) → is_other e ≡ true → Stays s e (accepted s e).state
unfolding accepted hard_reset_heard
other_stays s (write r a v) o = absurd (true≢false (sym o))
other_stays s (read r a) o = read_stays s r a
other_stays s (pass r n) o = by_kept s _ _ (passes_kept n s.request s)
other_stays s (hard_reset r) o = by_kept s _ _ refl
other_stays s (packet r k m) o = by_kept s _ _ (hears_kept k m s)
other_stays s (sense r x y z) o = absurd (true≢false (sym o))

step_stays : (s : State) (e : Event) → is_other e ≡ true → Stays s e (step s e).state
unfolding step result_of
step_stays s e o = go (refusal s e)
  where
    go : (r : Option ℕ) → Stays s e (result_of r s e).state
    go (some n) = record { shown = refl; reported = λ h. refl }
    go none = other_stays s e o

-- of what is shown, the bits of 40
pin_status_lem : (s : State) → bit_and (status0_of s) pin_status ≡ flag VBUSOK (readings s).vbus_ok + (flag COMP (readings s).comp + (readings s).bc_lvl)
unfolding part every
pin_status_lem s = shown_part s pin_status (λ a b n. flag VBUSOK a + (flag COMP b + n)) refl refl refl refl

read_taken : (s : State) (room : ℕ) → frame_room ≤ room → refusal s (read room interrupt) ≡ none
unfolding refusal first_no no12 no1 no2 no6 no3 no5 no4 no7 no8 no11 no9 no10 exists is_stored read_only
read_taken s room enough = simp (le-ltb room frame_room enough)

pub interrupts_exactly : InterruptsExactly
unfolding step result_of accepted senses written after_read cleared_at
interrupts_exactly =
    record {
      by_pins = λ s room x y z taken. rw taken (all_reported s (with_pins (record { cc1 = x; cc2 = y; vbus = z }) s) refl);
      by_writes = λ s room a v taken other. rw (taken, other) (all_reported s (writes a v s).state (writes_main a v s other));
      by_no_other = λ s e o. pin_status_lem _ ∙ ap (λ (x : Readings). flag VBUSOK x.vbus_ok + (flag COMP x.comp + x.bc_lvl)) (step_stays s e o).shown ∙ sym (pin_status_lem s);
      kept = λ s e o h. (step_stays s e o).reported h;
      cleared = λ s room enough. rw (read_taken s room enough) refl;
    }

-- ---- 3. Voltages on the pins

pub voltages_only : VoltagesOnly
unfolding step result_of accepted reply_to senses
voltages_only s room x y z =
    record {
      frames = rw (sense_checks s room x y z) (none_left (ltb room frame_room));
      reply = rw (sense_checks s room x y z) (answer (ltb room frame_room));
      reported = changes (readings s) (readings (with_pins (record { cc1 = x; cc2 = y; vbus = z }) s));
      only = changes_within (readings s) (readings (with_pins (record { cc1 = x; cc2 = y; vbus = z }) s));
      state = λ enough. rw (sense_checks s room x y z, le-ltb room frame_room enough) refl;
    }
  where
    none_left : (b : Bool) → (result_of (cond b (some 12) none) s (sense room x y z)).frames ≡ []
    none_left true = refl
    none_left false = refl

    answer : (b : Bool) → (result_of (cond b (some 12) none) s (sense room x y z)).reply ≡ cond b (no 12) done
    answer true = refl
    answer false = refl

-- ---- 5. SW_RES

reset_taken : (s : State) (room v : ℕ) → frame_room ≤ room → refusal s (write room reset v) ≡ none
unfolding
    refusal first_no no12 no1 no2 no6 no3 no5 no4 no7 no8 no11 no9 no10
    exists is_stored read_only tx_start port_start starts sends_reset to_be_stored
reset_taken s room v enough = simp (le-ltb room frame_room enough)

pub sw_res_keeps_voltages : SwResKeepsVoltages
unfolding step result_of accepted reset_written restored status0_of readings bc_lvl_of comp_of cell has
sw_res_keeps_voltages s room v enough h =
    let anew : (step s (write room reset v)).state ≡ with_pins s.pins power_up =
    rw (reset_taken s room v enough, reset_written_lem v s, h) refl in
    (anew, ap status0_of anew ∙ flag_sum (leb 4000 s.pins.vbus))
  where
    flag_sum : (b : Bool) → flag VBUSOK b + 0 ≡ cond b VBUSOK 0
    flag_sum true = refl
    flag_sum false = refl
