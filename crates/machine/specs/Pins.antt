-- What the comparators make of the voltages on the pins (02, A1; thresholds of data sheet 004, in millivolts).
-- Assumes nothing.
use Rattle.std.specs.Prelude.{Bool, true, false, not, cond, ◌&&◌, ◌||◌, List, [], ◌∷◌, ℕ, ◌+◌, ◌*◌, leb}
use Rattle.std.proofs.Math.Option.{Option, none, some}
use Rattle.std.specs.Int.Bits.{bit_and}
use Rattle.machine.specs.Registers.{switches0, measure, power, has, MEAS_CC2, MEAS_CC1, MEAS_VBUS, MDAC, PWR2}
use Rattle.machine.specs.State.{Pins, State, reg}

-- ---- thresholds

-- a voltage equal to a threshold counts as above
abbrev pub above : (threshold voltage : ℕ) → Bool
above t v = leb t v

-- BC_LVL steps at each of these
abbrev pub levels : List ℕ
levels = 200 ∷ 660 ∷ 1230 ∷ []

-- the MDAC's reference for a code, on a CC pin and on VBUS
abbrev pub cc_reference : ℕ → ℕ
cc_reference code = 42 * (code + 1)

abbrev pub vbus_reference : ℕ → ℕ
vbus_reference code = 420 * (code + 1)

-- 004 also prints 4.5 V; 4,000 holds
abbrev pub vbus_threshold : ℕ
vbus_threshold = 4000

-- ---- what is measured

-- the voltage of the CC pin whose MEAS_CC alone is 1
unfoldable pub one_pin : (cc1on cc2on : Bool) → Pins → Option ℕ
one_pin true false p = some p.cc1
one_pin false true p = some p.cc2
one_pin true true p = none
one_pin false false p = none

abbrev pub measured : (switches0 : ℕ) → Pins → Option ℕ
measured sw p = one_pin (has MEAS_CC1 sw) (has MEAS_CC2 sw) p

-- how many of the thresholds a voltage is above
abbrev pub steps : List ℕ → ℕ → ℕ
steps [] v = 0
steps (t ∷ ts) v = cond (above t v) 1 0 + steps ts v

abbrev pub steps_of : Option ℕ → ℕ
steps_of none = 0
steps_of (some v) = steps levels v

abbrev pub is_above : (threshold : ℕ) → Option ℕ → Bool
is_above t none = false
is_above t (some v) = above t v

-- ---- what is shown; it is stored nowhere

-- BC_LVL: PWR bit 2 and exactly one MEAS_CC, else 0
unfoldable pub bc_lvl_of : (switches0 power : ℕ) → Pins → ℕ
bc_lvl_of sw pwr p = cond (has PWR2 pwr) (steps_of (measured sw p)) 0

-- COMP: PWR bit 2, and either exactly one MEAS_CC with MEAS_VBUS 0, or MEAS_VBUS with both MEAS_CC 0; else 0
unfoldable pub comp_of : (switches0 measure power : ℕ) → Pins → Bool
comp_of sw m pwr p =
    has PWR2 pwr
    && ((not (has MEAS_VBUS m) && is_above (cc_reference (bit_and m MDAC)) (measured sw p))
    || (has MEAS_VBUS m && (not (has MEAS_CC1 sw || has MEAS_CC2 sw) && above (vbus_reference (bit_and m MDAC)) p.vbus)))

-- VBUSOK asks for no bit
abbrev pub vbus_ok_of : Pins → Bool
vbus_ok_of p = above vbus_threshold p.vbus

pub record Readings : Type 0 where
  pub vbus_ok : Bool
  pub comp : Bool
  pub bc_lvl : ℕ

abbrev pub readings_of : (switches0 measure power : ℕ) → Pins → Readings
readings_of sw m pwr p = record { vbus_ok = vbus_ok_of p; comp = comp_of sw m pwr p; bc_lvl = bc_lvl_of sw pwr p }

unfoldable pub readings : State → Readings
readings s = readings_of (reg switches0 s) (reg measure s) (reg power s) s.pins
