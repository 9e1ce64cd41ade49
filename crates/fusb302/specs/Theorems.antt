-- What holds of the promises themselves; proofs/Outcomes.antt has the proof of each statement.
-- Assumes nothing.
use Rattle.std.specs.Prelude.{◌≡◌, Bool, List, ◌↔◌, ℕ, ◌<◌, ◌≤◌, length, Err}
use Rattle.line.specs.Frame.{Frame}
use Rattle.line.specs.Write.{frame_room}
use Rattle.machine.specs.Events.{Event, packet}
use Rattle.machine.specs.Theorems.{GoodCrcFor}
use Rattle.fusb302.specs.declared.device.Device.{Device}
use Rattle.fusb302.specs.declared.device.Outcome.{Outcome}
use Rattle.fusb302.specs.declared.refusals.No.{No}
use Rattle.fusb302.specs.View.{view, Asks, Level, PoweredUp}
use Rattle.fusb302.specs.declared.why.Why.{Why}
use Rattle.fusb302.specs.declared.why.Why.TheVariants.{Refused, Leaves}
use Rattle.fusb302.specs.Serves.{Reply, replied, Sends, Serves}
use Rattle.fusb302.specs.Why.{Explains}

-- each reply means one thing
abbrev pub OneMeaning : Type 0
OneMeaning = (r s : Reply) → replied r ≡ replied s → r ≡ s

-- two outcomes that no caller can tell apart: reply, count, what the devices stand for, and the lent symbols after
pub record Alike (r s : Outcome) (a b : List ℕ) : Type 0 where
  pub reply : r.reply ≡ s.reply
  pub count : r.count ≡ s.count
  pub state : view r.device ≡ view s.device
  pub symbols : a ≡ b

-- no second outcome of an event; on refusal not even another device
abbrev pub OneOutcome : Type 0
OneOutcome =
    (e : Event) (d : Device) (before : List ℕ) (r s : Outcome) (a b : List ℕ)
    → Serves e d before r a → Serves e d before s b
    → Alike r s a b × ((n : No) → r.reply ≡ Err n → r.device ≡ s.device)

-- the view is enough: devices that stand for one state answer any event alike, stand for one state again and may be asked again,
-- have one level of INT_N, and answer alike why there was no GoodCRC
pub record ViewEnough : Type 0 where
  pub events :
      (e : Event) (d c : Device) (before : List ℕ) (r s : Outcome) (a b : List ℕ)
      → view d ≡ view c → Serves e d before r a → Serves e c before s b
      → Alike r s a b × (Asks r.device × Asks s.device)
  pub levels : (d c : Device) (r s : Bool) → view d ≡ view c → Level d r → Level c s → r ≡ s
  pub whys :
      (d c : Device) (k : ℕ) (m : List ℕ) (r s : Why No) → view d ≡ view c → Explains d k m r → Explains c k m s → r ≡ s

abbrev pub OnePowerUp : Type 0
OnePowerUp = (d e : Device) → PoweredUp d → PoweredUp e → view d ≡ view e

abbrev pub OneLevel : Type 0
OneLevel = (d : Device) (r s : Bool) → Level d r → Level d s → r ≡ s

-- ---- why was there no GoodCRC? (02, A5)

-- no second answer
abbrev pub OneWhy : Type 0
OneWhy = (d : Device) (k : ℕ) (m : List ℕ) (r s : Why No) → Explains d k m r → Explains d k m s → r ≡ s

-- frames that answer a packet, put into the lent symbols and counted
pub record RepliesWith (k : ℕ) (m before : List ℕ) (n : ℕ) (after : List ℕ) : Type 0 where
  pub frames : List Frame
  pub good_crc : GoodCrcFor k m frames
  pub sends : Sends frames before n after

-- what an answer says of the event: that a reply leaves exactly when symbols are sent, and a refusal exactly when it is given
pub record TrueOfEvent (k : ℕ) (m : List ℕ) (w : Why No) (before : List ℕ) (r : Outcome) (after : List ℕ) : Type 0 where
  pub leaves : (w ≡ Leaves) ↔ (0 < r.count)
  pub reply : w ≡ Leaves → RepliesWith k m before r.count after
  pub refused : (n : No) → (w ≡ Refused n) ↔ (r.reply ≡ Err n)

abbrev pub WhyTrueOfEvent : Type 0
WhyTrueOfEvent =
    (d : Device) (k : ℕ) (m : List ℕ) (w : Why No) (before : List ℕ) (r : Outcome) (after : List ℕ)
    → frame_room ≤ length before → Explains d k m w → Serves (packet (length before) k m) d before r after
    → TrueOfEvent k m w before r after
