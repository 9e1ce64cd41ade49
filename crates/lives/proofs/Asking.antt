-- Questions between the events: each is answered, and without them the life is the same.
-- Assumes nothing.
use mathlib.Core.Path.{◌≡◌, refl, sym, ap, ap₂, ◌∙◌, subst}
use mathlib.Core.List.{List, [], ◌∷◌, ◌++◌, append-nil, append_assoc, map, map-append}
use mathlib.Core.Option.{Option}
use Prim.Native.Nat.{ℕ}
use lib.ListN.{take}
use Rattle.machine.specs.State.{State, power_up}
use Rattle.machine.specs.Events.{Event, Fits}
use Rattle.machine.specs.Step.{step, after}
use Rattle.machine.specs.Why.{Reason, why}
use Rattle.machine.specs.Theorems.{AllFit}
use Rattle.fusb302.specs.declared.device.Device.{Device}
use Rattle.fusb302.specs.declared.refusals.No.{No}
use Rattle.fusb302.specs.declared.why.Why.{Why}
use Rattle.fusb302.specs.View.{view}
use Rattle.fusb302.specs.Serves.{Reply}
use Rattle.fusb302.specs.Why.{reason_of}
use Rattle.fusb302.proofs.Outcomes.{why_of, reason_back}
use Rattle.lives.specs.Lives.{Lived, born, went, Act, event, question, events_of, LivedAsking, began, goes, asks}
use Rattle.lives.specs.Theorems.{EveryQuestionAnswered, answers_to, AskingChangesNothing, AskingLifeOf, EveryAskingLived}
use Rattle.machine.proofs.Keeping.{power_up_good}
use Rattle.lives.proofs.Making.{made, made_powered_up}
use Rattle.lives.proofs.Living.{every_call_allowed, every_call_answered, called}

pub every_question_answered : EveryQuestionAnswered
every_question_answered es d rs line k m life =
    ((every_call_allowed es d rs line life).asks, record { answer = why_of (why (view d) k m); explains = reason_back (view d) k m })

-- ---- one act more

events_more : (acts : List Act) (e : Event) → events_of (acts ++ (event e ∷ [])) ≡ events_of acts ++ (e ∷ [])
events_more [] e = refl
events_more (event x ∷ acts) e = ap (λ (l : List Event). x ∷ l) (events_more acts e)
events_more (question k m ∷ acts) e = events_more acts e

events_same : (acts : List Act) (k : ℕ) (m : List ℕ) → events_of (acts ++ (question k m ∷ [])) ≡ events_of acts
events_same [] k m = refl
events_same (event x ∷ acts) k m = ap (λ (l : List Event). x ∷ l) (events_same acts k m)
events_same (question j l ∷ acts) k m = events_same acts k m

answers_same : (s : State) (acts : List Act) (e : Event) → answers_to s (acts ++ (event e ∷ [])) ≡ answers_to s acts
answers_same s [] e = refl
answers_same s (event x ∷ acts) e = answers_same (step s x).state acts e
answers_same s (question k m ∷ acts) e = ap (λ (l : List (Option Reason)). why s k m ∷ l) (answers_same s acts e)

answers_more : (s : State) (acts : List Act) (k : ℕ) (m : List ℕ)
    → answers_to s (acts ++ (question k m ∷ [])) ≡ answers_to s acts ++ (why (after s (events_of acts)) k m ∷ [])
unfolding after
answers_more s [] k m = refl
answers_more s (event x ∷ acts) k m = answers_more (step s x).state acts k m
answers_more s (question j l ∷ acts) k m = ap (λ (o : List (Option Reason)). why s j l ∷ o) (answers_more s acts k m)

-- ---- the questions struck out

struck_out : {acts : List Act} {d : Device} {rs : List Reply} {line : List ℕ} {ws : List (Why No)}
    → LivedAsking acts d rs line ws → Lived (events_of acts) d rs line
struck_out (began p) = born p
struck_out (goes {acts} {e} life call serves) = rw (events_more acts e) (went (struck_out life) call serves)
struck_out (asks {acts} k m w life is) = rw (events_same acts k m) (struck_out life)

machines_answers : {acts : List Act} {d : Device} {rs : List Reply} {line : List ℕ} {ws : List (Why No)}
    → LivedAsking acts d rs line ws → map reason_of ws ≡ answers_to power_up acts
machines_answers (began p) = refl
machines_answers (goes {acts} {e} life call serves) = machines_answers life ∙ sym (answers_same power_up acts e)
machines_answers (asks {acts} {d} {rs} {line} {ws} k m w life is) =
    let at = (every_call_allowed (events_of acts) d rs line (struck_out life)).state in
    map-append reason_of ws (w ∷ [])
    ∙ ap₂ (λ (l : List (Option Reason)) o. l ++ (o ∷ [])) (machines_answers life) (is ∙ ap (λ (s : State). why s k m) at)
    ∙ sym (answers_more power_up acts k m)

pub asking_changes_nothing : AskingChangesNothing
asking_changes_nothing acts d rs line ws life = (struck_out life, machines_answers life)

-- ---- questions anywhere

goes_on : (acts : List Act) (e : Event) → AskingLifeOf acts → Fits e → AskingLifeOf (acts ++ (event e ∷ []))
goes_on acts e l fits =
    let call = called e fits in
    let a = every_call_answered (events_of acts) l.device l.replies l.line e _ (struck_out l.lived) call in
    record {
      device = a.outcome.device;
      replies = l.replies ++ (a.outcome.reply ∷ []);
      line = l.line ++ take a.outcome.count a.after;
      answers = l.answers;
      lived = goes l.lived call a.serves;
    }

asks_on : (acts : List Act) (k : ℕ) (m : List ℕ) → AskingLifeOf acts → AskingLifeOf (acts ++ (question k m ∷ []))
asks_on acts k m l =
    let o = why (view l.device) k m in
    record {
      device = l.device;
      replies = l.replies;
      line = l.line;
      answers = l.answers ++ (why_of o ∷ []);
      lived = asks k m (why_of o) l.lived (reason_back (view l.device) k m);
    }

lives_through : (past acts : List Act) → AskingLifeOf past → AllFit (events_of acts) → AskingLifeOf (past ++ acts)
lives_through past [] l f = subst AskingLifeOf (sym (append-nil past)) l
lives_through past (event e ∷ acts) l f =
    subst AskingLifeOf (append_assoc past (event e ∷ []) acts) (lives_through (past ++ (event e ∷ [])) acts (goes_on past e l f.0) f.1)
lives_through past (question k m ∷ acts) l f =
    subst AskingLifeOf (append_assoc past (question k m ∷ []) acts) (lives_through (past ++ (question k m ∷ [])) acts (asks_on past k m l) f)

pub every_asking_lived : EveryAskingLived
every_asking_lived acts f =
    lives_through [] acts (record { device = made power_up power_up_good; replies = []; line = []; answers = []; lived = began made_powered_up }) f
