-- What holds of every life; proofs/Living.antt has the proof of each statement, proofs/Asking.antt of those about questions.
-- Assumes nothing.
use Rattle.std.specs.Prelude.{◌≡◌, List, [], ◌∷◌, map, ◌↔◌, ◌⊎◌, ℕ, ◌≤◌, length, take, drop, Err}
use Rattle.std.proofs.Math.Option.{Option}
use Rattle.line.specs.Frame.{Frame, AllWhole, joined}
use Rattle.line.specs.Write.{frame_room}
use Rattle.machine.specs.State.{State, power_up}
use Rattle.machine.specs.Events.{Event, no}
use Rattle.machine.specs.Refusals.{table}
use Rattle.machine.specs.Step as machine
use Rattle.machine.specs.Why.{Reason, why}
use Rattle.machine.specs.Theorems.{AllFit, FirstToApply}
use Rattle.fusb302.specs.declared.device.Device.{Device}
use Rattle.fusb302.specs.declared.device.Outcome.{Outcome}
use Rattle.fusb302.specs.declared.refusals.No.{No}
use Rattle.fusb302.specs.View.{view, Asks}
use Rattle.fusb302.specs.declared.why.Why.{Why}
use Rattle.fusb302.specs.Serves.{Reply, replied, Serves}
use Rattle.fusb302.specs.Why.{reason_of, Explains}
use Rattle.lives.specs.Lives.{Called, Lived, Act, event, question, events_of, LivedAsking}

-- ---- 1. A promise asks of a device only what holds in every life (01, 'How tight each promise is')

-- every method may be called, and the device stands for the machine's state
pub record Allowed (es : List Event) (d : Device) : Type 0 where
  pub asks : Asks d
  pub state : view d ≡ machine.after power_up es
  pub fit : AllFit es

abbrev pub EveryCallAllowed : Type 0
EveryCallAllowed = (es : List Event) (d : Device) (rs : List Reply) (line : List ℕ) → Lived es d rs line → Allowed es d

-- ---- 2. Condition 2: the replies are the machine's, each by its meaning in 01's numbers and values

abbrev pub MachinesReplies : Type 0
MachinesReplies =
    (es : List Event) (d : Device) (rs : List Reply) (line : List ℕ) → Lived es d rs line
    → map replied rs ≡ machine.replies power_up es

-- ---- 3. Condition 1: a refusal is given exactly when its row is the first that applies, and leaves all as it stood

-- the device is itself, every lent symbol is as it stood, and none was sent
pub record Unchanged (d : Device) (before : List ℕ) (r : Outcome) (after : List ℕ) : Type 0 where
  pub device : r.device ≡ d
  pub lent : after ≡ before
  pub count : r.count ≡ 0

-- and whatever the reply, the device can be asked again
abbrev pub RefusalLeavesAll : Type 0
RefusalLeavesAll =
    (es : List Event) (d : Device) (rs : List Reply) (line : List ℕ) (e : Event) (before : List ℕ) (r : Outcome) (after : List ℕ)
    → Lived es d rs line → Called e before → Serves e d before r after
    → ((n : ℕ) → (replied r.reply ≡ no n) ↔ FirstToApply n (table (machine.after power_up es) e))
    × ((n : No) → r.reply ≡ Err n → Unchanged d before r after)
    × Asks r.device

-- ---- 4. Condition 3: the record is the symbols of the machine's frames, joined, and divides into no others

-- these frames are whole and join to the record, and no others do
pub record DividesInto (line : List ℕ) (fs : List Frame) : Type 0 where
  pub whole : AllWhole fs
  pub joins : joined fs ≡ line
  pub alone : (gs : List Frame) → AllWhole gs → joined gs ≡ line → gs ≡ fs

abbrev pub RecordDivides : Type 0
RecordDivides =
    (es : List Event) (d : Device) (rs : List Reply) (line : List ℕ) → Lived es d rs line
    → (line ≡ machine.record_of power_up es) × DividesInto line (machine.frames power_up es)

-- ---- 5. Condition 3: lives that send different frames leave different records

abbrev pub RecordsTellApart : Type 0
RecordsTellApart =
    (es fs : List Event) (d e : Device) (rs qs : List Reply) (line other : List ℕ)
    → Lived es d rs line → Lived fs e qs other → (machine.frames power_up es ≡ machine.frames power_up fs → ⊥)
    → line ≡ other → ⊥

-- ---- 6. Only a frame's symbols are written, and the rest stays (01, 'The transmit queue'): none, 4, or 17 to 73

-- the record grows by as many as are counted, and by no more than were lent
pub record SendsOnly (before : List ℕ) (r : Outcome) (after : List ℕ) : Type 0 where
  pub counts : (r.count ≡ 0) ⊎ ((r.count ≡ 4) ⊎ ((17 ≤ r.count) × (r.count ≤ frame_room)))
  pub adds : length (take r.count after) ≡ r.count
  pub within : r.count ≤ length before
  pub rest : drop r.count after ≡ drop r.count before

abbrev pub OnlySymbolsSent : Type 0
OnlySymbolsSent =
    (es : List Event) (d : Device) (rs : List Reply) (line : List ℕ) (e : Event) (before : List ℕ) (r : Outcome) (after : List ℕ)
    → Lived es d rs line → Called e before → Serves e d before r after → SendsOnly before r after

-- ---- 7. Lives leave no history out, so that what holds of them is of nothing empty

-- an outcome and lent symbols that a call's promise allows
pub record Answered (e : Event) (d : Device) (before : List ℕ) : Type 0 where
  pub outcome : Outcome
  pub after : List ℕ
  pub serves : Serves e d before outcome after

-- whatever is called in whatever life, with whatever symbols lent, has one
abbrev pub EveryCallAnswered : Type 0
EveryCallAnswered =
    (es : List Event) (d : Device) (rs : List Reply) (line : List ℕ) (e : Event) (before : List ℕ)
    → Lived es d rs line → Called e before → Answered e d before

pub record LifeOf (es : List Event) : Type 0 where
  pub device : Device
  pub replies : List Reply
  pub line : List ℕ
  pub lived : Lived es device replies line

-- so every list of events that fit has a life
abbrev pub EveryHistoryLived : Type 0
EveryHistoryLived = (es : List Event) → AllFit es → LifeOf es

-- ---- 8. Why was there no GoodCRC? (02, A5): it may always be asked, and asking changes nothing

-- an answer that the method's promise allows
pub record Explained (d : Device) (k : ℕ) (m : List ℕ) : Type 0 where
  pub answer : Why No
  pub explains : Explains d k m answer

abbrev pub EveryQuestionAnswered : Type 0
EveryQuestionAnswered =
    (es : List Event) (d : Device) (rs : List Reply) (line : List ℕ) (k : ℕ) (m : List ℕ)
    → Lived es d rs line → Asks d × Explained d k m

-- the machine's answers, each after the events that come before it
abbrev pub answers_to : State → List Act → List (Option Reason)
answers_to s [] = []
answers_to s (event e ∷ acts) = answers_to (machine.step s e).state acts
answers_to s (question k m ∷ acts) = why s k m ∷ answers_to s acts

-- with the questions struck out it is a life: the same device, replies and record
abbrev pub AskingChangesNothing : Type 0
AskingChangesNothing =
    (acts : List Act) (d : Device) (rs : List Reply) (line : List ℕ) (ws : List (Why No)) → LivedAsking acts d rs line ws
    → Lived (events_of acts) d rs line × (map reason_of ws ≡ answers_to power_up acts)

pub record AskingLifeOf (acts : List Act) : Type 0 where
  pub device : Device
  pub replies : List Reply
  pub line : List ℕ
  pub answers : List (Why No)
  pub lived : LivedAsking acts device replies line answers

-- questions may come anywhere among events that fit
abbrev pub EveryAskingLived : Type 0
EveryAskingLived = (acts : List Act) → AllFit (events_of acts) → AskingLifeOf acts
