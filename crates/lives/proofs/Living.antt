-- Each event of a life is the machine's step, so what holds of the machine holds of what the methods return and write.
-- Assumes nothing.
use mathlib.Core.Path.{◌≡◌, refl, sym, ap, ap₂, ◌∙◌, subst}
use mathlib.Core.List.{List, [], ◌∷◌, ◌++◌, append-nil, append_assoc, map, map-append}
use mathlib.Core.Logic.{◌↔◌, ⊎_elim}
use mathlib.Core.Option.{Option, none, some}
use Prim.Native.Nat.{ℕ, ◌≤◌}
use native.Mathlib.Omega.{arith}
use borrow.Author.Tests.{ltb-false}
use lib.ListN.{length, take, drop, replicate, length-replicate}
use lib.Seq.{drop_at}
use Rattle.std.specs.Prelude.{Err}
use Rattle.line.specs.Frame.{Frame, joined}
use Rattle.line.specs.Write.{frame_room}
use Rattle.machine.specs.State.{State, power_up}
use Rattle.machine.specs.Events as events
use Rattle.machine.specs.Events.{Event, Fits, no, room}
use Rattle.machine.specs.Refusals.{no12, table, refusal}
use Rattle.machine.specs.Step.{result_of, step, after, replies, frames, record_of}
use Rattle.machine.specs.Good.{Good}
use Rattle.machine.specs.Theorems.{AllFit, FirstToApply}
use Rattle.machine.proofs.Refusing.{first_none_exactly, refused_exactly, refusal_changes_nothing}
use Rattle.machine.proofs.Recording.{symbols_sent, record_names_frames, records_differ}
use Rattle.fusb302.specs.declared.device.Device.{Device}
use Rattle.fusb302.specs.declared.device.Outcome.{Outcome}
use Rattle.fusb302.specs.declared.refusals.No.{No}
use Rattle.fusb302.specs.Refusals.{number_of}
use Rattle.fusb302.specs.View.{view}
use Rattle.fusb302.specs.Serves.{Reply, replied, Serves}
use Rattle.fusb302.proofs.Serving.{served_symbols}
use Rattle.lives.specs.Lives.{Called, Lived, born, went}
use Rattle.lives.specs.Theorems.{
  Allowed,
  EveryCallAllowed,
  MachinesReplies,
  Unchanged,
  RefusalLeavesAll,
  RecordDivides,
  RecordsTellApart,
  OnlySymbolsSent,
  EveryCallAnswered,
  LifeOf,
  EveryHistoryLived,
}
use Rattle.machine.proofs.Keeping.{power_up_good}
use Rattle.lives.proofs.Making.{made, answered, made_powered_up}

-- ---- the machine with one more event

all_fit : (es : List Event) (e : Event) → AllFit es → Fits e → AllFit (es ++ (e ∷ []))
all_fit [] e p q = (q, tt)
all_fit (x ∷ es) e p q = (p.0, all_fit es e p.1 q)

after_more : (s : State) (es : List Event) (e : Event) → after s (es ++ (e ∷ [])) ≡ (step (after s es) e).state
unfolding after
after_more s [] e = refl
after_more s (x ∷ es) e = after_more (step s x).state es e

replies_more : (s : State) (es : List Event) (e : Event)
    → replies s (es ++ (e ∷ [])) ≡ replies s es ++ ((step (after s es) e).reply ∷ [])
unfolding after replies
replies_more s [] e = refl
replies_more s (x ∷ es) e = ap (λ (l : List events.Reply). (step s x).reply ∷ l) (replies_more (step s x).state es e)

frames_more : (s : State) (es : List Event) (e : Event) → frames s (es ++ (e ∷ [])) ≡ frames s es ++ (step (after s es) e).frames
unfolding after frames
frames_more s [] e = append-nil (step s e).frames
frames_more s (x ∷ es) e =
    ap (λ (l : List Frame). (step s x).frames ++ l) (frames_more (step s x).state es e) ∙ sym (append_assoc (step s x).frames _ _)

joined_append : (fs gs : List Frame) → joined (fs ++ gs) ≡ joined fs ++ joined gs
unfolding joined
joined_append [] gs = refl
joined_append (f ∷ fs) gs = rw (joined_append fs gs, append_assoc)

record_more : (s : State) (es : List Event) (e : Event)
    → record_of s (es ++ (e ∷ [])) ≡ record_of s es ++ joined (step (after s es) e).frames
unfolding record_of
record_more s es e = ap joined (frames_more s es e) ∙ joined_append (frames s es) (step (after s es) e).frames

-- ---- one event

module _ {e : Event} {d : Device} {before : List ℕ} {r : Outcome} {lent : List ℕ} (serves : Serves e d before r lent) where
  rest_stays : drop r.count lent ≡ drop r.count before
  rest_stays =
      ap (drop r.count) serves.lent
      ∙ drop_at (joined (step (view d) e).frames) _ r.count (sym serves.count)
      ∙ ap (λ (n : ℕ). drop n before) (sym serves.count)

  refuses : (n : ℕ) → (replied r.reply ≡ no n) ↔ FirstToApply n (table (view d) e)
  refuses n =
      let rows = refused_exactly (view d) e n in
      (λ q. rows.0 (sym serves.reply ∙ q), λ f. serves.reply ∙ rows.1 f)

  unchanged : (n : No) → r.reply ≡ Err n → Unchanged d before r lent
  unfolding joined
  unchanged n q =
      let silent = (refusal_changes_nothing (view d) e (number_of n) (sym serves.reply ∙ ap replied q)).1 in
      record { device = serves.refused n q; lent = rw silent at serves.lent; count = rw silent at serves.count }

-- where less than a frame's room is lent, 12 is the first to apply and nothing is sent
sent_within : (s : State) (e : Event) → Good s → Fits e → length (joined (step s e).frames) ≤ room e
unfolding step result_of refusal joined no12
sent_within s e g f = go (refusal s e) refl
  where
    go : (o : Option ℕ) → refusal s e ≡ o → length (joined (step s e).frames) ≤ room e
    go (some n) h = rw h (omega arith)
    go none h =
        let lent = ltb-false (room e) frame_room ((first_none_exactly (table s e)).0 h).0 in
        ⊎_elim (λ z. omega arith) (⊎_elim (λ z. omega arith) (λ z. omega arith)) (symbols_sent s e g f)

-- ---- a life follows the machine

record Follows (es : List Event) (d : Device) (rs : List Reply) (line : List ℕ) : Type 0 where
  allowed : Allowed es d
  answers : map replied rs ≡ replies power_up es
  joins : line ≡ record_of power_up es

follows : {es : List Event} {d : Device} {rs : List Reply} {line : List ℕ} → Lived es d rs line → Follows es d rs line
unfolding after replies frames record_of joined
follows (born p) = record { allowed = record { asks = p.asks; state = p.new; fit = tt }; answers = refl; joins = refl }
follows (went {es} {rs} {e} {r} life call serves) =
    let f = follows life in
    let at = f.allowed.state in
    record {
      allowed =
          record {
            asks = serves.asks;
            state = serves.state ∙ ap (λ (s : State). (step s e).state) at ∙ sym (after_more power_up es e);
            fit = all_fit es e f.allowed.fit call.fits;
          };
      answers =
          map-append replied rs (r.reply ∷ [])
          ∙ ap₂ (λ (l : List events.Reply) a. l ++ (a ∷ [])) f.answers (serves.reply ∙ ap (λ (s : State). (step s e).reply) at)
          ∙ sym (replies_more power_up es e);
      joins =
          ap₂ (λ (l m : List ℕ). l ++ m) f.joins (served_symbols serves ∙ ap (λ (s : State). joined (step s e).frames) at)
          ∙ sym (record_more power_up es e);
    }

-- ---- 1. and 2. Every call is allowed, and the replies are the machine's

pub every_call_allowed : EveryCallAllowed
every_call_allowed es d rs line life = (follows life).allowed

pub machines_replies : MachinesReplies
machines_replies es d rs line life = (follows life).answers

-- ---- 3. A refusal leaves all

pub refusal_leaves_all : RefusalLeavesAll
refusal_leaves_all es d rs line e before r lent life call serves =
    (λ n. rw (← (follows life).allowed.state) (refuses serves n), unchanged serves, serves.asks)

-- ---- 4. and 5. The record divides into the machine's frames alone, and tells lives apart

pub record_divides : RecordDivides
unfolding record_of
record_divides es d rs line life =
    let f = follows life in
    let names = record_names_frames es f.allowed.fit in
    (f.joins, record { whole = names.0; joins = sym f.joins; alone = λ gs w j. names.1 gs w (j ∙ f.joins) })

pub records_tell_apart : RecordsTellApart
records_tell_apart es fs d e rs qs line other life second differ same =
    let f = follows life in
    let g = follows second in
    records_differ es fs f.allowed.fit g.allowed.fit differ (sym f.joins ∙ same ∙ g.joins)

-- ---- 6. Only a frame's symbols are written

pub only_symbols_sent : OnlySymbolsSent
only_symbols_sent es d rs line e before r lent life call serves =
    let good = (follows life).allowed.asks.good in
    record {
      counts = rw serves.count (symbols_sent (view d) e good call.fits);
      adds = ap length (served_symbols serves) ∙ sym serves.count;
      within = omega (arith, sent_within (view d) e good call.fits);
      rest = rest_stays serves;
    }

-- ---- 7. Lives leave no history out

pub every_call_answered : EveryCallAnswered
every_call_answered es d rs line e before life call = answered e d before (follows life).allowed.asks call.fits

-- as many symbols are lent as its event has room for
pub called : (e : Event) → Fits e → Called e (replicate (room e) 0)
called e fits = record { fits = fits; lent = sym (length-replicate {A = ℕ} (room e) 0) }

-- one event more, whatever its room holds
lives_on : (es : List Event) (e : Event) → LifeOf es → Fits e → LifeOf (es ++ (e ∷ []))
lives_on es e l fits =
    let call = called e fits in
    let a = every_call_answered es l.device l.replies l.line e _ l.lived call in
    record {
      device = a.outcome.device;
      replies = l.replies ++ (a.outcome.reply ∷ []);
      line = l.line ++ take a.outcome.count a.after;
      lived = went l.lived call a.serves;
    }

lives_through : (es fs : List Event) → LifeOf es → AllFit fs → LifeOf (es ++ fs)
lives_through es [] l f = subst LifeOf (sym (append-nil es)) l
lives_through es (e ∷ fs) l f =
    subst LifeOf (append_assoc es (e ∷ []) fs) (lives_through (es ++ (e ∷ [])) fs (lives_on es e l f.0) f.1)

pub every_history_lived : EveryHistoryLived
every_history_lived es f =
    lives_through [] es (record { device = made power_up power_up_good; replies = []; line = []; lived = born made_powered_up }) f
