-- What the comparators show: it hangs on Switches0, Measure, Power and the voltages alone, and so do the interrupts that report it.
-- Assumes nothing.
use mathlib.Core.Path.{◌≡◌, refl, sym, ap, ◌∙◌}
use mathlib.Core.Bool.{Bool, true, false, not, cond, ◌&&◌}
use mathlib.Core.List.{List}
use mathlib.Core.Option.{Option, none, some}
use Prim.Native.Nat.{ℕ, ◌+◌, ◌-◌}
use native.Mathlib.Omega.{arith}
use borrow.Author.Tests.{eq-eqb}
use lib.Bits.{bit_and, bit_or, or_zero_r}
use lib.Dec.{eqb}
use lib.ListN.{get_or}
use lib.Seq.{get_or-set_other}
use Rattle.line.specs.Frame.{Frame}
use Rattle.machine.specs.Registers.{stored_bits, cell, has, stored, control0, control1, control3, reset, fifos, SW_RES}
use Rattle.machine.specs.State.{Phase, message, soft_reset, Request, Pins, State, with_cells, with_ints}
use Rattle.machine.specs.Pins.{Readings, readings}
use Rattle.machine.specs.Status.{flag, differ, changes, reports, I_VBUSOK, I_COMP_CHNG, I_ALERT, I_CRC_CHK, I_BC_LVL}
use Rattle.machine.specs.Requests.{Effect, silent, sends_if, start, send_hard_reset, soft_reset_follows, message_fails, soft_fails, fails, expires, elapses, passes}
use Rattle.machine.specs.Packets.{noted, keeps, stores, accepts, hears}
use Rattle.machine.specs.Step.{pd_reset, queues, control0_written, control1_written, control3_written, reset_written, port_written, commands, writes, sw_reset, written}
use Rattle.machine.specs.Good.{Within}
use Rattle.machine.specs.Theorems.{pin_interrupts}
use Rattle.machine.proofs.Masks.{set_other}

-- ---- what does not change is not reported

same_not : (b : Bool) → differ b b ≡ false
same_not true = refl
same_not false = refl

changes_none : (x : Readings) → changes x x ≡ 0
unfolding changes
changes_none x = simp (same_not, eq-eqb x.bc_lvl x.bc_lvl refl)

-- they are among the interrupts of what is shown
pub changes_within : (x y : Readings) → Within pin_interrupts (changes x y)
unfolding changes
changes_within x y = go (differ x.vbus_ok y.vbus_ok) (differ x.comp y.comp) (not (eqb x.bc_lvl y.bc_lvl))
  where
    go : (a b c : Bool) → Within pin_interrupts (flag I_VBUSOK a + (flag I_COMP_CHNG b + flag I_BC_LVL c))
    go true true true = refl
    go true true false = refl
    go true false true = refl
    go true false false = refl
    go false true true = refl
    go false true false = refl
    go false false true = refl
    go false false false = refl

pub reports_nothing : (s t : State) → readings t ≡ readings s → reports s t ≡ t
reports_nothing s t e =
    ap (λ (m : ℕ). with_ints (record { a = t.ints.a; b = t.ints.b; main = m }) t)
    (ap (λ (x : Readings). bit_or t.ints.main (changes (readings s) x)) e
    ∙ ap (bit_or t.ints.main) (changes_none (readings s))
    ∙ or_zero_r t.ints.main)

-- ---- what an effect leaves alone

-- cells, voltages, and the interrupts of what is shown
pub record Kept : Type 0 where
  pub cells : List ℕ
  pub pins : Pins
  pub main : ℕ

abbrev pub kept : State → Kept
kept s = record { cells = s.cells; pins = s.pins; main = bit_and s.ints.main pin_interrupts }

kept_if : (b : Bool) (s t : State) → kept (cond b s t) ≡ cond b (kept s) (kept t)
kept_if true s t = refl
kept_if false s t = refl

effect_if : (b : Bool) (x y : Effect) → kept (cond b x y).state ≡ cond b (kept x.state) (kept y.state)
effect_if true x y = refl
effect_if false x y = refl

sent_if : (o : Option Frame) (s : State) → kept (sends_if o s).state ≡ kept s
sent_if none s = refl
sent_if (some f) s = refl

reset_if : (w : ℕ) (q : Request) (o : Option Frame) (s : State) → kept (soft_reset_follows w q o s).state ≡ kept s
reset_if w q none s = refl
reset_if w q (some f) s = refl

either : (b : Bool) (x : Kept) → cond b x x ≡ x
either true x = refl
either false x = refl

-- ---- time

fails_kept : (p : Phase) (w : ℕ) (q : Request) (s : State) → kept (fails p w q s).state ≡ kept s
unfolding fails message_fails soft_fails
fails_kept message w q s = simp (effect_if, reset_if, either)
fails_kept (soft_reset k) w q s = simp (effect_if, either)

elapses_kept : (w : ℕ) (q : Request) (s : State) → kept (elapses w q s).state ≡ kept s
unfolding elapses expires
elapses_kept w q s = simp (effect_if, sent_if, fails_kept, either)

pub passes_kept : (n : ℕ) (o : Option Request) (s : State) → kept (passes n o s).state ≡ kept s
unfolding passes
passes_kept n none s = refl
passes_kept n (some q) s = elapses_kept (q.waited + n) q s

-- ---- packets

-- interrupts of other kinds
alert_other : (x : ℕ) → bit_and (bit_or x I_ALERT) pin_interrupts ≡ bit_and x pin_interrupts
alert_other x = set_other pin_interrupts x I_ALERT refl

check_other : (x : ℕ) → bit_and (bit_or x I_CRC_CHK) pin_interrupts ≡ bit_and x pin_interrupts
check_other x = set_other pin_interrupts x I_CRC_CHK refl

noted_kept : (k : ℕ) (m : List ℕ) (s : State) → kept (noted k m s) ≡ kept s
noted_kept k m s = simp (kept_if, either, check_other)

keeps_kept : (k : ℕ) (m : List ℕ) (s : State) → kept (keeps k m s) ≡ kept s
unfolding keeps
keeps_kept k m s = simp (kept_if, either, alert_other)

stores_kept : (k : ℕ) (m : List ℕ) (s : State) → kept (stores k m s).state ≡ kept s
unfolding stores
stores_kept k m s = simp (effect_if, kept_if, either, keeps_kept)

pub hears_kept : (k : ℕ) (m : List ℕ) (s : State) → kept (hears k m s).state ≡ kept s
unfolding hears accepts
hears_kept k m s = simp (effect_if, kept_if, either, stores_kept, alert_other, check_other, noted_kept)

-- ---- writes

port_kept : (v : ℕ) (s : State) → kept (port_written v s).state ≡ kept s
unfolding port_written start queues
port_kept v s = simp (effect_if, kept_if, sent_if, either, alert_other)

control0_kept : (v : ℕ) (s : State) → kept (control0_written v s).state ≡ kept s
unfolding control0_written start
control0_kept v s = simp (effect_if, kept_if, sent_if, either)

control1_kept : (v : ℕ) (s : State) → kept (control1_written v s).state ≡ kept s
unfolding control1_written
control1_kept v s = simp (kept_if, either)

control3_kept : (v : ℕ) (s : State) → kept (control3_written v s).state ≡ kept s
unfolding control3_written send_hard_reset
control3_kept v s = simp (effect_if, either)

reset_kept : (v : ℕ) (s : State) → has SW_RES v ≡ false → kept (reset_written v s).state ≡ kept s
unfolding reset_written pd_reset
reset_kept v s e = simp (e, kept_if, either)

commands_kept : (a v : ℕ) (s : State) → sw_reset a v ≡ false → kept (commands a v s).state ≡ kept s
unfolding commands sw_reset
commands_kept a v s h = go (eqb a reset) h
  where
    go : (b : Bool) → (b && has SW_RES v) ≡ false
        → kept (cond (eqb a control0) (control0_written v s) (cond (eqb a control1) (control1_written v s)
        (cond (eqb a control3) (control3_written v s) (cond b (reset_written v s) (silent s))))).state
        ≡ kept s
    go true e = simp (effect_if, control0_kept, control1_kept, control3_kept, reset_kept v s e, either)
    go false e = simp (effect_if, control0_kept, control1_kept, control3_kept, either)

-- a write sets none of the interrupts of what is shown but by reporting
pub writes_main : (a v : ℕ) (s : State) → sw_reset a v ≡ false
    → bit_and (writes a v s).state.ints.main pin_interrupts ≡ bit_and s.ints.main pin_interrupts
unfolding writes
writes_main a v s h = go (eqb a fifos)
  where
    go : (b : Bool)
        → bit_and (cond b (port_written v s) (commands a v (with_cells (stored a v s.cells) s))).state.ints.main pin_interrupts
        ≡ bit_and s.ints.main pin_interrupts
    go true = ap (λ (x : Kept). x.main) (port_kept v s)
    go false = ap (λ (x : Kept). x.main) (commands_kept a v _ h)

-- ---- writes that report nothing: the port, and registers that the comparators do not read

pub shows_same : (s t : State) → kept t ≡ kept s → readings t ≡ readings s
unfolding readings
shows_same s t e = rw (ap (λ (x : Kept). x.cells) e, ap (λ (x : Kept). x.pins) e) refl

stored_shows : (a v : ℕ) (s : State) → (a - 2 ≡ 0 → ⊥) → (a - 2 ≡ 2 → ⊥) → (a - 2 ≡ 9 → ⊥)
    → readings (with_cells (stored a v s.cells) s) ≡ readings s
unfolding readings cell stored
stored_shows a v s x y z =
    let w = bit_and v (get_or stored_bits (a - 2) 0) in
    rw (get_or-set_other s.cells (a - 2) 0 w 0 (λ e. x (sym e)), get_or-set_other s.cells (a - 2) 2 w 0 (λ e. y (sym e)), get_or-set_other s.cells (a - 2) 9 w 0 (λ e. z (sym e)))
    refl

unreported : (s : State) (x : Effect) → readings x.state ≡ readings s → record { state = reports s x.state; frames = x.frames } ≡ x
unreported s x e = ap (λ (t : State). record { state = t; frames = x.frames }) (reports_nothing s x.state e)

pub port_written_lem : (v : ℕ) (s : State) → written fifos v s ≡ port_written v s
unfolding written writes sw_reset
port_written_lem v s = unreported s (port_written v s) (shows_same s _ (port_kept v s))

pub control0_written_lem : (v : ℕ) (s : State) → written control0 v s ≡ control0_written v (with_cells (stored control0 v s.cells) s)
unfolding written writes commands sw_reset
control0_written_lem v s =
    unreported s _ (shows_same _ _ (control0_kept v _) ∙ stored_shows control0 v s (omega arith) (omega arith) (omega arith))

pub control1_written_lem : (v : ℕ) (s : State) → written control1 v s ≡ control1_written v (with_cells (stored control1 v s.cells) s)
unfolding written writes commands sw_reset
control1_written_lem v s =
    unreported s _ (shows_same _ _ (control1_kept v _) ∙ stored_shows control1 v s (omega arith) (omega arith) (omega arith))

pub control3_written_lem : (v : ℕ) (s : State) → written control3 v s ≡ control3_written v (with_cells (stored control3 v s.cells) s)
unfolding written writes commands sw_reset
control3_written_lem v s =
    unreported s _ (shows_same _ _ (control3_kept v _) ∙ stored_shows control3 v s (omega arith) (omega arith) (omega arith))

-- SW_RES sets no interrupt, and PD_RESET changes nothing that is shown
pub reset_written_lem : (v : ℕ) (s : State) → written reset v s ≡ reset_written v (with_cells (stored reset v s.cells) s)
unfolding written writes commands sw_reset
reset_written_lem v s = go (has SW_RES v) refl
  where
    t : State
    t = with_cells (stored reset v s.cells) s

    go : (b : Bool) → has SW_RES v ≡ b
        → record {
          state = cond b (reset_written v t).state (reports s (reset_written v t).state);
          frames = (reset_written v t).frames;
        }
        ≡ reset_written v t
    go true e = refl
    go false e = unreported s _ (shows_same _ _ (reset_kept v _ e) ∙ stored_shows reset v s (omega arith) (omega arith) (omega arith))
