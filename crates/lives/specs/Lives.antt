-- A life: power_up's promise, then any calls whose outcomes satisfy the methods' promise, refused ones and small buffers among them.
-- Assumes nothing.
use Rattle.std.specs.Prelude.{◌≡◌, List, [], ◌∷◌, ◌++◌, ℕ, length, take}
use Rattle.machine.specs.Events.{Event, Fits, room}
use Rattle.fusb302.specs.declared.device.Device.{Device}
use Rattle.fusb302.specs.declared.device.Outcome.{Outcome}
use Rattle.fusb302.specs.View.{PoweredUp}
use Rattle.fusb302.specs.declared.refusals.No.{No}
use Rattle.fusb302.specs.declared.why.Why.{Why}
use Rattle.fusb302.specs.Serves.{Reply, Serves}
use Rattle.fusb302.specs.Why.{Explains}

-- the event of a call, as contracts have it: numbers that parameters can carry, and for its room the length of the lent symbols
pub record Called (e : Event) (before : List ℕ) : Type 0 where
  pub fits : Fits e
  pub lent : room e ≡ length before

-- events, the device after them, its replies, and the record: of each event the lent symbols that it counts, joined, and nothing else
pub data Lived : List Event → Device → List Reply → List ℕ → Type 0 where
  born : {d : Device} → PoweredUp d → Lived [] d [] []
  went : {es : List Event} {d : Device} {rs : List Reply} {line : List ℕ} {e : Event} {before : List ℕ} {r : Outcome} {after : List ℕ}
      → Lived es d rs line → Called e before → Serves e d before r after
      → Lived (es ++ (e ∷ [])) r.device (rs ++ (r.reply ∷ [])) (line ++ take r.count after)

-- ---- questions between the events (02, A5)

pub data Act : Type 0 where
  event : Event → Act
  question : (kind : ℕ) → List ℕ → Act

abbrev pub events_of : List Act → List Event
events_of [] = []
events_of (event e ∷ acts) = e ∷ events_of acts
events_of (question k m ∷ acts) = events_of acts

-- as a life, and what the questions are answered; the method gives no device back, so the one that was asked goes on
pub data LivedAsking : List Act → Device → List Reply → List ℕ → List (Why No) → Type 0 where
  began : {d : Device} → PoweredUp d → LivedAsking [] d [] [] []
  goes : {acts : List Act} {d : Device} {rs : List Reply} {line : List ℕ} {ws : List (Why No)} {e : Event} {before : List ℕ} {r : Outcome} {after : List ℕ}
      → LivedAsking acts d rs line ws → Called e before → Serves e d before r after
      → LivedAsking (acts ++ (event e ∷ [])) r.device (rs ++ (r.reply ∷ [])) (line ++ take r.count after) ws
  asks : {acts : List Act} {d : Device} {rs : List Reply} {line : List ℕ} {ws : List (Why No)} (k : ℕ) (m : List ℕ) (w : Why No)
      → LivedAsking acts d rs line ws → Explains d k m w
      → LivedAsking (acts ++ (question k m ∷ [])) d rs line (ws ++ (w ∷ []))
