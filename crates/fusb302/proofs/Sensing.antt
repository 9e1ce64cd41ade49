-- What the comparators show, from the parts of a device, and the event that gives voltages.
-- Assumes nothing.
use mathlib.Core.Path.{◌≡◌, refl, ap, ◌∙◌}
use mathlib.Core.Bool.{Bool, true, false, cond, not, beq}
use mathlib.Core.List.{List, [], ◌∷◌, map}
use Prim.Native.Nat.{ℕ, suc, ◌+◌, ◌<◌, ◌≤◌, ◌^◌}
use native.Mathlib.Omega.{arith}
use Rattle.std.specs.List.{filter}
use borrow.Author.Tests.{lt-ltb, le-ltb}
use lib.ListN.{length}
use Rattle.line.specs.Frame.{joined}
use Rattle.line.specs.Write.{frame_room}
use Rattle.machine.specs.State.{raises}
use Rattle.machine.specs.Pins.{above, steps, readings}
use Rattle.machine.specs.Pins as comparators
use Rattle.machine.specs.Status.{differ, changes}
use Rattle.machine.specs.Events.{sense}
use Rattle.machine.specs.Step.{senses, accepted, reply_to}
use Rattle.machine.proofs.Checking.{sense_checks}
use Rattle.fusb302.specs.declared.device.Device.{Device}
use Rattle.std.specs.Prelude.{None, Ok, Err}
use Rattle.fusb302.specs.declared.refusals.No.TheVariants.{SmallBuffer}
use Rattle.fusb302.specs.declared.pins.Millivolts.{Millivolts}
use Rattle.fusb302.specs.declared.pins.Readings.{Readings}
use Rattle.fusb302.specs.Sensed.{shown_as}
use Rattle.fusb302.specs.View.{view, Asks}
use Rattle.fusb302.specs.Serves.{Becomes, Serves}
use Rattle.fusb302.proofs.Serving.{serves_no, serves_yes}

-- ---- thresholds counted

-- those of BC_LVL, as the code holds them
abbrev pub thresholds : List Millivolts
thresholds = record { 0 = 200 } ∷ record { 0 = 660 } ∷ record { 0 = 1230 } ∷ []

-- those of a list that a voltage is above
pub counted : (ts : List Millivolts) (v : ℕ) → length (filter (λ (t : Millivolts). above t.0 v) ts) ≡ steps (map (λ (t : Millivolts). t.0) ts) v
counted [] v = refl
counted (t ∷ ts) v = go (above t.0 v) (filter (λ (u : Millivolts). above u.0 v) ts) (counted ts v)
  where
    go : (b : Bool) (more : List Millivolts) → length more ≡ steps (map (λ (u : Millivolts). u.0) ts) v
        → length (cond b (t ∷ more) more) ≡ cond b 1 0 + steps (map (λ (u : Millivolts). u.0) ts) v
    go true more e = ap suc e ∙ omega arith
    go false more e = e ∙ omega arith

pub at_most : (ts : List ℕ) (v : ℕ) → steps ts v ≤ length ts
at_most [] v = omega arith
at_most (t ∷ ts) v = go (above t v) (at_most ts v)
  where
    go : (b : Bool) → steps ts v ≤ length ts → cond b 1 0 + steps ts v ≤ suc (length ts)
    go true h = omega arith
    go false h = omega arith

-- ---- what has changed of what is shown

pub differ_is : (a b : Bool) → not (beq a b) ≡ differ a b
differ_is true true = refl
differ_is true false = refl
differ_is false true = refl
differ_is false false = refl

-- ---- the event

-- a device with other voltages
abbrev sensing : (d : Device) → length d.cells ≡ 15 → Millivolts → Millivolts → Millivolts → Device
sensing d p a b c =
    record {
      cells = d.cells;
      tx = d.tx;
      rx = d.rx;
      status = d.status;
      ints = d.ints;
      request = d.request;
      pins = record { cc1 = a; cc2 = b; vbus = c };
      registers = p;
    }

module _ (d : Device) (asks : Asks d) (before : List ℕ) where
  pub sense_small : (x y z : ℕ) → length before < frame_room
      → Serves (sense (length before) x y z) d before (record { device = d; reply = Err SmallBuffer; count = 0 }) before
  sense_small x y z h =
      serves_no (sense (length before) x y z) d before asks SmallBuffer
      (sense_checks (view d) (length before) x y z ∙ simp (lt-ltb (length before) frame_room h))

  pub sense_taken : frame_room ≤ length before → (k : length d.cells ≡ 15) (a b c : Millivolts) → (a.0 < 2 ^ 16) → (b.0 < 2 ^ 16) → (c.0 < 2 ^ 16)
      → (was : Readings) → shown_as was ≡ readings (view d) → (t : Device)
      → Becomes (raises (changes (shown_as was) (readings (view (sensing d k a b c)))) (view (sensing d k a b c))) t
      → Serves (sense (length before) a.0 b.0 c.0) d before (record { device = t; reply = Ok None; count = 0 }) before
  unfolding accepted reply_to senses joined
  sense_taken room k a b c p q r was e t h =
      serves_yes (sense (length before) a.0 b.0 c.0) d before asks
      (sense_checks (view d) (length before) a.0 b.0 c.0 ∙ simp (le-ltb (length before) frame_room room)) (p, (q, r))
      (record { device = t; reply = Ok None; count = 0 }) before h.arranged
      (h.state ∙ ap (λ (x : comparators.Readings). raises (changes x (readings (view (sensing d k a b c)))) (view (sensing d k a b c))) e) refl refl refl
