-- Retries are real: what a request sends and shows from its start to its end, while nothing but time passes.
-- Assumes nothing.
use mathlib.Core.Path.{◌≡◌, refl, sym, ap, ◌∙◌, subst}
use mathlib.Core.Bool.{Bool, true, false, not, cond, ◌&&◌, ◌||◌, and-eq-true_iff, true≢false}
use mathlib.Core.List.{List, [], ◌∷◌, ◌++◌, append-nil, append_assoc}
use mathlib.Core.Option.{Option, none, some}
use Prim.Native.Nat.{ℕ, zero, suc, ◌+◌, ◌*◌, ◌-◌, ◌/◌, ◌<◌, ◌≤◌}
use native.Mathlib.Omega.{arith}
use borrow.Author.Tests.{lt-ltb, le-ltb, le-leb, lt-leb, ltb-true, ltb-false, eqb-true}
use lib.Bits.{bit_and, bit_or}
use lib.Dec.{ltb, leb, eqb}
use lib.ListN.{take, replicate, length-replicate, length-append, replicate-append-replicate}
use lib.Seq.{get_or-set_other, take-append-le, take-append-add, take_all}
use Rattle.line.specs.Frame.{Frame}
use Rattle.line.specs.Refusal.{first_no}
use Rattle.line.specs.Write.{frame_room}
use Rattle.line.specs.Kind.{common, kind_from}
use Rattle.machine.specs.Registers.{control0, cell, stored, has, fifos, TX_FLUSH, TX_START}
use Rattle.machine.specs.State.{Phase, message, soft_reset, Request, State, with_cells, with_request, hides, shows, raises_a}
use Rattle.machine.specs.Status.{RETRYFAIL, SOFTFAIL, I_RETRYFAIL, I_SOFTFAIL, I_HARDSENT}
use Rattle.machine.specs.Queue.{START, inside, is_some, spelt, spelt_by}
use Rattle.machine.specs.Requests.{
  Effect,
  silent,
  sends,
  sends_if,
  wait,
  hard_reset_frame,
  soft_reset_of,
  flight_in,
  latched,
  fail_bits,
  start,
  over,
  goes_on,
  message_fails,
  soft_fails,
  fails,
  expires,
  elapses,
  passes,
}
use Rattle.machine.specs.Packets.{only_if}
use Rattle.machine.specs.Events.{Event, write, pass}
use Rattle.machine.specs.Refusals.{tx_start, port_start, starts, no12, no1, no2, no6, no3, no5, no4, no7, no8, no11, no9, no10, refusal}
use Rattle.machine.specs.Step.{control0_written, port_written, written, accepted, result_of, step, after, frames}
use Rattle.machine.proofs.Masks.{set_by, set_other, within_and, outside}
use Rattle.machine.proofs.Comparing.{port_written_lem, control0_written_lem}
use Rattle.machine.specs.Theorems.{
  passing,
  AllParts,
  in_all,
  waits,
  sequel,
  Started,
  SentToTheEnd,
  ComesTo,
  FailsExactly,
  Resetting,
}

-- ---- histories joined

pub after_append : (s : State) (xs ys : List Event) → after s (xs ++ ys) ≡ after (after s xs) ys
unfolding after
after_append s [] ys = refl
after_append s (x ∷ xs) ys = after_append (step s x).state xs ys

-- ---- a request that nobody answers, stage by stage

abbrev failed : State → State
failed s = raises_a I_RETRYFAIL (shows RETRYFAIL (over s))

abbrev soft_failed : State → State
soft_failed s = raises_a I_SOFTFAIL (shows SOFTFAIL (over s))

-- when the last wait of the message runs out
abbrev end_of : Request → ℕ
end_of q = suc q.retries * wait

-- where a request stands after so many microseconds, and what it has sent: k waits of its phase have run out, and w of the next have passed
data Stage (q : Request) (f : Frame) (base : State) : ℕ → State → List Frame → Type 0 where
  sending : (k w : ℕ) {n : ℕ} → k ≤ q.retries → w < wait → n ≡ k * wait + w
      → Stage q f base n (with_request (some (goes_on message k w q)) base) (replicate (suc k) f)
  resetting : (k w : ℕ) {n : ℕ} → q.soft ≡ true → k ≤ q.retries → w < wait → n ≡ end_of q + (k * wait + w)
      → Stage q f base n (with_request (some (goes_on (soft_reset f.kind) k w q)) (failed base))
      (replicate (suc q.retries) f ++ replicate (suc k) (soft_reset_of f.kind q))
  message_over : {n : ℕ} → q.soft ≡ false → end_of q ≤ n → Stage q f base n (failed base) (replicate (suc q.retries) f)
  reset_over : {n : ℕ} → q.soft ≡ true → q.hard ≡ false → end_of q + end_of q ≤ n
      → Stage q f base n (soft_failed (failed base))
      (replicate (suc q.retries) f ++ replicate (suc q.retries) (soft_reset_of f.kind q))
  hard_reset_sent : {n : ℕ} → q.soft ≡ true → q.hard ≡ true → end_of q + end_of q ≤ n
      → Stage q f base n (raises_a I_HARDSENT (soft_failed (failed base)))
      (replicate (suc q.retries) f ++ replicate (suc q.retries) (soft_reset_of f.kind q) ++ (hard_reset_frame ∷ []))

one_more : (n : ℕ) (f : Frame) → replicate n f ++ (f ∷ []) ≡ replicate (suc n) f
one_more n f = let count : n + 1 ≡ suc n = omega arith in rw count at (replicate-append-replicate n 1 f)

-- a wait goes on, or has run out
pub before_the_end : (s : State) (q : Request) (t : ℕ) → t < wait → elapses t q s ≡ silent (with_request (some (goes_on q.phase q.sent t q)) s)
unfolding elapses
before_the_end s q t h = simp (lt-ltb t wait h)

pub past_the_end : (s : State) (q : Request) (t : ℕ) → wait ≤ t → elapses t q s ≡ expires (t - wait) q s
unfolding elapses
past_the_end s q t h = simp (le-ltb t wait h)

module _ (q : Request) (f : Frame) (base : State) where
  -- the stage that an effect leads to, where these frames had left
  abbrev Goes : ℕ → List Frame → Effect → Type 0
  Goes n fs x = Stage q f base n x.state (fs ++ x.frames)

  -- another way to write what was sent
  sent_as : {n : ℕ} {t : State} {fs gs : List Frame} → Stage q f base n t fs → fs ≡ gs → Stage q f base n t gs
  sent_as {n} {t} st e = subst (λ (l : List Frame). Stage q f base n t l) e st

  unsent : {n : ℕ} {t : State} {fs : List Frame} → Stage q f base n t fs → Goes n fs (silent t)
  unsent {fs = fs} st = sent_as st (sym (append-nil fs))

  goes_by : (n : ℕ) (fs : List Frame) {x y : Effect} → x ≡ y → Goes n fs y → Goes n fs x
  goes_by n fs e st = subst (Goes n fs) (sym e) st

  -- the request in this phase, with k retries sent and w microseconds of its wait passed
  abbrev waiting : Phase → ℕ → ℕ → State → State
  waiting p k w s = with_request (some (goes_on p k w q)) s

  -- what comes of it, t microseconds after its wait began
  abbrev Comes : Phase → ℕ → ℕ → ℕ → State → Effect → Type 0
  Comes p k w t s x = elapses t (goes_on p k w q) (waiting p k w s) ≡ x

  waits_on : (p : Phase) (k w t : ℕ) (s : State) → t < wait → Comes p k w t s (silent (waiting p k t s))
  waits_on p k w t s h = before_the_end (waiting p k w s) (goes_on p k w q) t h

  module _ (k w t : ℕ) (long : wait ≤ t) where
    sends_again : k < q.retries → spelt base.tx ≡ some f → Comes message k w t base (sends f (waiting message (suc k) (t - wait) base))
    unfolding elapses expires flight_in
    sends_again more spells = simp (le-ltb t wait long, lt-ltb k q.retries more, spells)

    resets_again : (s : State) → k < q.retries → Comes (soft_reset f.kind) k w t s (sends (soft_reset_of f.kind q) (waiting (soft_reset f.kind) (suc k) (t - wait) s))
    unfolding elapses expires flight_in
    resets_again s more = simp (le-ltb t wait long, lt-ltb k q.retries more)

    module _ (s : State) (last : q.retries ≤ k) where
      message_resets : q.soft ≡ true → spelt s.tx ≡ some f → Comes message k w t s (sends (soft_reset_of f.kind q) (waiting (soft_reset f.kind) 0 (t - wait) (failed s)))
      unfolding elapses expires fails message_fails
      message_resets soft spells = rw (le-ltb t wait long, le-ltb k q.retries last, soft, spells) refl

      message_ends : q.soft ≡ false → Comes message k w t s (silent (failed s))
      unfolding elapses expires fails message_fails
      message_ends soft = rw (le-ltb t wait long, le-ltb k q.retries last, soft) refl

      reset_hard : q.hard ≡ true → Comes (soft_reset f.kind) k w t s (sends hard_reset_frame (raises_a I_HARDSENT (soft_failed s)))
      unfolding elapses expires fails soft_fails
      reset_hard hard = rw (le-ltb t wait long, le-ltb k q.retries last, hard) refl

      reset_ends : q.hard ≡ false → Comes (soft_reset f.kind) k w t s (silent (soft_failed s))
      unfolding elapses expires fails soft_fails
      reset_ends hard = rw (le-ltb t wait long, le-ltb k q.retries last, hard) refl

  module _ (k w n m : ℕ) (few : k ≤ q.retries) (short : w < wait) (part : m ≤ wait) where
    abbrev t : ℕ
    t = w + m

    message_goes : spelt base.tx ≡ some f → n ≡ k * wait + w
        → Goes (n + m) (replicate (suc k) f) (elapses t (goes_on message k w q) (waiting message k w base))
    message_goes spells is = go (ltb t wait) refl (ltb k q.retries) refl q.soft refl
      where
        fs : List Frame
        fs = replicate (suc k) f

        go : (b : Bool) → ltb t wait ≡ b → (c : Bool) → ltb k q.retries ≡ c → (d : Bool) → q.soft ≡ d
            → Goes (n + m) fs (elapses t (goes_on message k w q) (waiting message k w base))
        go true e c g d h =
            let z = ltb-true t wait e in
            goes_by (n + m) fs (waits_on message k w t base z) (unsent (sending k t few z (omega arith)))
        go false e true g d h =
            let z = ltb-false t wait e in
            let y = ltb-true k q.retries g in
            goes_by (n + m) fs (sends_again k w t z y spells)
            (sent_as (sending (suc k) (t - wait) y (omega arith) (omega arith)) (sym (one_more (suc k) f)))
        go false e false g true h =
            let z = ltb-false t wait e in
            let y = ltb-false k q.retries g in
            let last : q.retries ≡ k = omega arith in
            goes_by (n + m) fs (message_resets k w t z base y h spells)
            (sent_as (resetting 0 (t - wait) h (omega arith) (omega arith) (omega arith)) (rw last refl))
        go false e false g false h =
            let z = ltb-false t wait e in
            let y = ltb-false k q.retries g in
            let last : q.retries ≡ k = omega arith in
            goes_by (n + m) fs (message_ends k w t z base y h) (sent_as (message_over h (omega arith)) (rw last (sym (append-nil fs))))

    reset_goes : q.soft ≡ true → n ≡ end_of q + (k * wait + w)
        → Goes (n + m) (replicate (suc q.retries) f ++ replicate (suc k) (soft_reset_of f.kind q))
        (elapses t (goes_on (soft_reset f.kind) k w q) (waiting (soft_reset f.kind) k w (failed base)))
    reset_goes soft is = go (ltb t wait) refl (ltb k q.retries) refl q.hard refl
      where
        fs : List Frame
        fs = replicate (suc q.retries) f ++ replicate (suc k) (soft_reset_of f.kind q)

        go : (b : Bool) → ltb t wait ≡ b → (c : Bool) → ltb k q.retries ≡ c → (d : Bool) → q.hard ≡ d
            → Goes (n + m) fs (elapses t (goes_on (soft_reset f.kind) k w q) (waiting (soft_reset f.kind) k w (failed base)))
        go true e c g d h =
            let z = ltb-true t wait e in
            goes_by (n + m) fs (waits_on (soft_reset f.kind) k w t (failed base) z) (unsent (resetting k t soft few z (omega arith)))
        go false e true g d h =
            let z = ltb-false t wait e in
            let y = ltb-true k q.retries g in
            goes_by (n + m) fs (resets_again k w t z (failed base) y)
            (sent_as (resetting (suc k) (t - wait) soft y (omega arith) (omega arith))
            (ap (λ (l : List Frame). replicate (suc q.retries) f ++ l) (sym (one_more (suc k) (soft_reset_of f.kind q))) ∙ sym (append_assoc (replicate (suc q.retries) f) _ _)))
        go false e false g true h =
            let z = ltb-false t wait e in
            let y = ltb-false k q.retries g in
            let last : q.retries ≡ k = omega arith in
            goes_by (n + m) fs (reset_hard k w t z (failed base) y h) (sent_as (hard_reset_sent soft h (omega arith)) (rw last refl))
        go false e false g false h =
            let z = ltb-false t wait e in
            let y = ltb-false k q.retries g in
            let last : q.retries ≡ k = omega arith in
            goes_by (n + m) fs (reset_ends k w t z (failed base) y h) (sent_as (reset_over soft h (omega arith)) (rw last (sym (append-nil _))))

  -- any stage, and a part of time
  stage_goes : spelt base.tx ≡ some f → {n : ℕ} {t : State} {fs : List Frame} → Stage q f base n t fs → (m : ℕ) → m ≤ wait
      → Goes (n + m) fs (passes m t.request t)
  unfolding passes
  stage_goes spells (sending k w {n} few short is) m part = message_goes k w n m few short part spells is
  stage_goes spells (resetting k w {n} soft few short is) m part = reset_goes k w n m few short part soft is
  stage_goes spells (message_over soft h) m part = unsent (message_over soft (omega arith))
  stage_goes spells (reset_over soft hard h) m part = unsent (reset_over soft hard (omega arith))
  stage_goes spells (hard_reset_sent soft hard h) m part = unsent (hard_reset_sent soft hard (omega arith))

-- ---- time events

pass_taken : (s : State) (room n : ℕ) → frame_room ≤ room → n ≤ wait → refusal s (pass room n) ≡ none
unfolding refusal first_no no12 no1 no2 no6 no3 no5 no4 no7 no8 no11 no9 no10
pass_taken s room n h k = simp (le-ltb room frame_room h, le-ltb 1000 n k)

-- a time event that is taken does what its microseconds do
pub pass_step : (s : State) (room n : ℕ) → frame_room ≤ room → n ≤ wait
    → ((step s (pass room n)).state ≡ (passes n s.request s).state) × ((step s (pass room n)).frames ≡ (passes n s.request s).frames)
unfolding step result_of accepted
pass_step s room n enough h = let taken = pass_taken s room n enough h in (rw taken refl, rw taken refl)

-- one of a history's events, and those behind it
first_then : (s : State) (e : Event) (es : List Event) {t : State} {fs : List Frame} → (step s e).state ≡ t → (step s e).frames ≡ fs
    → (after s (e ∷ es) ≡ after t es) × (frames s (e ∷ es) ≡ fs ++ frames t es)
unfolding after frames
first_then s e es p q = (rw p refl, rw (p, q) refl)

module _ (q : Request) (f : Frame) (base : State) (spells : spelt base.tx ≡ some f) (room : ℕ) (enough : frame_room ≤ room) where
  stage_runs : (ns : List ℕ) → AllParts ns → {n : ℕ} {t : State} {fs : List Frame} → Stage q f base n t fs
      → Stage q f base (n + in_all ns) (after t (passing room ns)) (fs ++ frames t (passing room ns))
  unfolding after frames
  stage_runs [] parts {n} {t} {fs} st =
      let same : n + 0 ≡ n = omega arith in
      rw (same, append-nil) st
  stage_runs (m ∷ ns) parts {n} {t} {fs} st =
      let next = stage_goes q f base spells st m parts.0 in
      let e = pass_step t room m enough parts.0 in
      let first = first_then t (pass room m) (passing room ns) e.0 e.1 in
      let sum : n + (m + in_all ns) ≡ n + m + in_all ns = omega arith in
      rw (sum, first.0, first.1, ← append_assoc) (stage_runs ns parts.1 next)

-- ---- an accepted start

-- what a start leaves: the request as it was latched, a queue that spells its frame, and no fail bit
record Opened (s : State) (t : State) (f : Frame) : Type 0 where
  base : State
  is : t ≡ with_request (some (goes_on message 0 0 (latched s))) base
  spells : spelt base.tx ≡ some f
  queue : base.tx ≡ s.tx
  ints : base.ints.a ≡ s.ints.a
  retryfail : bit_and base.status.status0a RETRYFAIL ≡ 0
  softfail : bit_and base.status.status0a SOFTFAIL ≡ 0

fresh : (s : State) → goes_on message 0 0 (latched s) ≡ latched s
unfolding latched
fresh s = refl

start_opens : (s : State) (cells : List ℕ) (f : Frame) → latched (with_cells cells s) ≡ latched s → (start (with_cells cells s)).frames ≡ f ∷ []
    → Opened s (start (with_cells cells s)).state f
unfolding start
start_opens s cells f e q = go (spelt s.tx) refl q
  where
    kept : State
    kept = hides fail_bits (with_cells cells s)

    then : State
    then = with_request (some (latched (with_cells cells s))) kept

    go : (o : Option Frame) → spelt s.tx ≡ o → (sends_if o then).frames ≡ f ∷ [] → Opened s (sends_if o then).state f
    go none p q = let z : ◌≡◌ {A = ℕ} 0 1 = cc in absurd (omega arith)
    go (some g) p q =
        let same : g ≡ f = cc in
        record {
          base = kept;
          is = ap (λ (r : Request). with_request (some r) kept) (e ∙ sym (fresh s));
          spells = cc;
          queue = refl;
          ints = refl;
          retryfail = outside 0xCF RETRYFAIL _ (within_and s.status.status0a 0xCF) refl;
          softfail = outside 0xCF SOFTFAIL _ (within_and s.status.status0a 0xCF) refl;
        }

-- to store Control0 changes nothing that is latched
still_latched : (s : State) (v : ℕ) → latched (with_cells (stored control0 v s.cells) s) ≡ latched s
unfolding latched cell stored
still_latched s v = rw (get_or-set_other s.cells 4 1 _ 0 (omega arith), get_or-set_other s.cells 4 7 _ 0 (omega arith))

-- nothing leaves of an empty queue
flushed : (t : State) (f : Frame) → t.tx ≡ [] → (start t).frames ≡ f ∷ [] → ⊥
unfolding start spelt spelt_by kind_from common
flushed t f e q =
    let no : (start t).frames ≡ [] = rw e in
    let z : ◌≡◌ {A = ℕ} 0 1 = cc in
    omega arith

control0_opens : (s : State) (cells : List ℕ) (v : ℕ) (f : Frame) → latched (with_cells cells s) ≡ latched s → has TX_START v ≡ true
    → (control0_written v (with_cells cells s)).frames ≡ f ∷ [] → Opened s (control0_written v (with_cells cells s)).state f
unfolding control0_written
control0_opens s cells v f e h q = rw h (go (has TX_FLUSH v) (rw h at q))
  where
    go : (b : Bool) → (start (only_if b over (with_cells cells s))).frames ≡ f ∷ [] → Opened s (start (only_if b over (with_cells cells s))).state f
    go true q = absurd (flushed (over (with_cells cells s)) f refl q)
    go false q = start_opens s cells f e q

abbrev Opens : State → Frame → ℕ → ℕ → Type 0
Opens s f v a = (written a v s).frames ≡ f ∷ [] → Opened s (written a v s).state f

tx_opens : (s : State) (v : ℕ) (f : Frame) → has TX_START v ≡ true → Opens s f v control0
tx_opens s v f h = rw (control0_written_lem v s) (control0_opens s (stored control0 v s.cells) v f (still_latched s v) h)

port_opens : (s : State) (v : ℕ) (f : Frame) → port_start s fifos v ≡ true → Opens s f v fifos
unfolding port_written
port_opens s v f h = rw (port_written_lem v s, h) (start_opens s s.cells f refl)

written_opens : (s : State) (a v : ℕ) (f : Frame) → starts s a v ≡ true → Opens s f v a
unfolding starts tx_start port_start
written_opens s a v f h = go (tx_start a v) refl h
  where
    go : (b : Bool) → tx_start a v ≡ b → b || port_start s a v ≡ true → Opens s f v a
    go true e p =
        let both = (and-eq-true_iff (eqb a control0) (has TX_START v)).0 e in
        subst (Opens s f v) (sym (eqb-true a control0 both.0)) (tx_opens s v f both.1)
    go false e p =
        let is = eqb-true a fifos ((and-eq-true_iff (eqb a fifos) (not (inside s.tx) && eqb v START)).0 p).0 in
        subst (Opens s f v) (sym is) (port_opens s v f (subst (λ (x : ℕ). port_start s x v ≡ true) is p))

abbrev StepOpens : State → Frame → Event → Type 0
StepOpens s f e = refusal s e ≡ none → (step s e).frames ≡ f ∷ [] → Opened s (step s e).state f

step_opens : (s : State) (room a v : ℕ) (f : Frame) → starts s a v ≡ true → StepOpens s f (write room a v)
unfolding step result_of accepted
step_opens s room a v f h taken q = rw taken (written_opens s a v f h (rw taken at q))

start_opened : (s : State) (e : Event) (f : Frame) → Started s e f → Opened s (step s e).state f
start_opened s e f st =
    subst (StepOpens s f) (sym st.is) (step_opens s st.room st.address st.octet f st.starting) st.taken st.sent

-- ---- what has left at a stage

take_replicate : (k n : ℕ) (f : Frame) → k ≤ n → take k (replicate n f) ≡ replicate k f
take_replicate zero n f h = refl
take_replicate (suc k) zero f h = absurd (omega arith)
take_replicate (suc k) (suc n) f h = ap (λ (l : List Frame). f ∷ l) (take_replicate k n f (omega arith))

-- the first of so many, and of so many and what is behind them
take_first : (k n : ℕ) (f : Frame) (l : List Frame) → k ≤ n → take k (replicate n f ++ l) ≡ replicate k f
take_first k n f l h = take-append-le k (replicate n f) l (omega (arith, length-replicate n f)) ∙ take_replicate k n f h

take_behind : (k n : ℕ) (f : Frame) (l : List Frame) → take (n + k) (replicate n f ++ l) ≡ replicate n f ++ take k l
take_behind k n f l = rw (length-replicate n f) at (take-append-add (replicate n f) l k)

module _ (q : Request) (f : Frame) (base : State) where
  stage_sent : {n : ℕ} {t : State} {fs : List Frame} → Stage q f base n t fs
      → fs ≡ take (suc (n / wait)) (replicate (suc q.retries) f ++ sequel f.kind q)
  stage_sent (sending k w few short is) =
      let d : (k * wait + w) / wait ≡ k = omega arith in
      rw (is, d) (sym (take_first (suc k) (suc q.retries) f (sequel f.kind q) (omega arith)))
  stage_sent (resetting k w {n} soft few short is) =
      let d : suc q.retries + suc k ≡ suc (n / wait) = omega arith in
      let all = replicate (suc q.retries) f ++ (replicate (suc q.retries) (soft_reset_of f.kind q) ++ cond q.hard (hard_reset_frame ∷ []) []) in
      rw soft
      (sym (take_behind (suc k) (suc q.retries) f _
      ∙ ap (λ (l : List Frame). replicate (suc q.retries) f ++ l) (take_first (suc k) (suc q.retries) (soft_reset_of f.kind q) _ (omega arith)))
      ∙ ap (λ (c : ℕ). take c all) d)
  stage_sent (message_over {n} soft h) =
      let messages = replicate (suc q.retries) f in
      let long = length-replicate (suc q.retries) f in
      rw soft (sym (ap (take (suc (n / wait))) (append-nil messages) ∙ take_all (suc (n / wait)) messages (omega arith)))
  stage_sent (reset_over {n} soft hard h) =
      let messages = replicate (suc q.retries) f in
      let resets = replicate (suc q.retries) (soft_reset_of f.kind q) in
      let one = length-replicate (suc q.retries) f in
      let two = length-replicate (suc q.retries) (soft_reset_of f.kind q) in
      let both = length-append messages resets in
      rw (soft, hard)
      (sym (ap (λ (l : List Frame). take (suc (n / wait)) (messages ++ l)) (append-nil resets) ∙ take_all (suc (n / wait)) (messages ++ resets) (omega arith)))
  stage_sent (hard_reset_sent {n} soft hard h) =
      let messages = replicate (suc q.retries) f in
      let resets = replicate (suc q.retries) (soft_reset_of f.kind q) in
      let one = length-replicate (suc q.retries) f in
      let two = length-replicate (suc q.retries) (soft_reset_of f.kind q) in
      let both = length-append messages (resets ++ (hard_reset_frame ∷ [])) in
      let last = length-append resets (hard_reset_frame ∷ []) in
      rw (soft, hard) (append_assoc messages resets (hard_reset_frame ∷ []) ∙ sym (take_all (suc (n / wait)) (messages ++ (resets ++ (hard_reset_frame ∷ []))) (omega arith)))

-- ---- what a stage shows

pub has_set : (x m : ℕ) → has m (bit_or x m) ≡ not (eqb m 0)
unfolding has
has_set x m = ap (λ (y : ℕ). not (eqb y 0)) (set_by x m)

pub has_other : (k x m : ℕ) → bit_and m k ≡ 0 → has k (bit_or x m) ≡ has k x
unfolding has
has_other k x m e = ap (λ (y : ℕ). not (eqb y 0)) (set_other k x m e)

has_none : (k x : ℕ) → bit_and x k ≡ 0 → has k x ≡ false
unfolding has
has_none k x e = ap (λ (y : ℕ). not (eqb y 0)) e

and_none : (b : Bool) → (b && false) ≡ false
and_none true = refl
and_none false = refl

module _ (s : State) (f : Frame) (t : State) (o : Opened s t f) where
  -- 3C and 3E as the start left them
  abbrev x : ℕ
  x = o.base.status.status0a

  abbrev i : ℕ
  i = o.base.ints.a

  sending_shows : (r : Request) → ComesTo s (with_request (some r) o.base) false false false true
  sending_shows r =
      record {
        retryfail = has_none RETRYFAIL x o.retryfail;
        softfail = has_none SOFTFAIL x o.softfail;
        i_retryfail = ap (has I_RETRYFAIL) o.ints;
        i_softfail = ap (has I_SOFTFAIL) o.ints;
        i_hardsent = ap (has I_HARDSENT) o.ints;
        queue = o.queue;
        request = refl;
      }

  failed_shows : (r : Option Request) → ComesTo s (with_request r (failed o.base)) true false false (is_some r)
  failed_shows r =
      record {
        retryfail = has_set x RETRYFAIL;
        softfail = has_other SOFTFAIL x RETRYFAIL refl ∙ has_none SOFTFAIL x o.softfail;
        i_retryfail = has_set i I_RETRYFAIL;
        i_softfail = has_other I_SOFTFAIL i I_RETRYFAIL refl ∙ ap (has I_SOFTFAIL) o.ints;
        i_hardsent = has_other I_HARDSENT i I_RETRYFAIL refl ∙ ap (has I_HARDSENT) o.ints;
        queue = refl;
        request = refl;
      }

  soft_shows : ComesTo s (soft_failed (failed o.base)) true true false false
  soft_shows =
      let m = failed_shows none in
      let y = bit_or x RETRYFAIL in
      let j = bit_or i I_RETRYFAIL in
      record {
        retryfail = has_other RETRYFAIL y SOFTFAIL refl ∙ m.retryfail;
        softfail = has_set y SOFTFAIL;
        i_retryfail = has_other I_RETRYFAIL j I_SOFTFAIL refl ∙ m.i_retryfail;
        i_softfail = has_set j I_SOFTFAIL;
        i_hardsent = has_other I_HARDSENT j I_SOFTFAIL refl ∙ m.i_hardsent;
        queue = refl;
        request = refl;
      }

  hard_shows : ComesTo s (raises_a I_HARDSENT (soft_failed (failed o.base))) true true true false
  hard_shows =
      let m = soft_shows in
      let k = bit_or (bit_or i I_RETRYFAIL) I_SOFTFAIL in
      record {
        retryfail = m.retryfail;
        softfail = m.softfail;
        i_retryfail = has_other I_RETRYFAIL k I_HARDSENT refl ∙ m.i_retryfail;
        i_softfail = has_other I_SOFTFAIL k I_HARDSENT refl ∙ m.i_softfail;
        i_hardsent = has_set k I_HARDSENT;
        queue = refl;
        request = refl;
      }

  module _ (q : Request) where
    -- by whether the time of the message and that of the Soft_Reset are over
    abbrev ShowsBy : State → Bool → Bool → Type 0
    ShowsBy u first second =
        ComesTo s u first (second && q.soft) ((second && q.soft) && q.hard) (not first || (q.soft && not (second && q.soft)))

    stage_shows : {n : ℕ} {u : State} {fs : List Frame} → Stage q f o.base n u fs → ShowsBy u (leb (end_of q) n) (leb (end_of q + end_of q) n)
    stage_shows (sending k w {n} few short is) =
        rw (lt-leb (end_of q) n (omega arith), lt-leb (end_of q + end_of q) n (omega arith)) (sending_shows _)
    stage_shows (resetting k w {n} soft few short is) =
        rw (le-leb (end_of q) n (omega arith), lt-leb (end_of q + end_of q) n (omega arith), soft) (failed_shows (some _))
    stage_shows (message_over {n} soft h) =
        rw (le-leb (end_of q) n h, soft, and_none (leb (end_of q + end_of q) n)) (failed_shows none)
    stage_shows (reset_over {n} soft hard h) =
        rw (le-leb (end_of q) n (omega arith), le-leb (end_of q + end_of q) n h, soft, hard) soft_shows
    stage_shows (hard_reset_sent {n} soft hard h) =
        rw (le-leb (end_of q) n (omega arith), le-leb (end_of q + end_of q) n h, soft, hard) hard_shows

-- ---- 5. Retries are real

module _ (s : State) (e : Event) (f : Frame) (room : ℕ) (enough : frame_room ≤ room) (st : Started s e f) where
  started_runs : (ns : List ℕ) → AllParts ns
      → Stage (latched s) f (start_opened s e f st).base (in_all ns) (after s (e ∷ passing room ns)) (frames s (e ∷ passing room ns))
  started_runs ns parts =
      let o = start_opened s e f st in
      let first : Stage (latched s) f o.base 0 (step s e).state (f ∷ []) = rw o.is (sending 0 0 {n = 0} (omega arith) (omega arith) refl) in
      let then = first_then s e (passing room ns) refl st.sent in
      let sum : 0 + in_all ns ≡ in_all ns = omega arith in
      rw (then.0, then.1) (rw sum at (stage_runs (latched s) f o.base o.spells room enough ns parts first))

pub sent_to_the_end : SentToTheEnd
sent_to_the_end s e f room ns enough parts st = stage_sent (latched s) f _ (started_runs s e f room enough st ns parts)

pub fails_exactly : FailsExactly
fails_exactly s e f room ns enough parts st = stage_shows s f _ (start_opened s e f st) (latched s) (started_runs s e f room enough st ns parts)

-- ---- between its message's failure and its own a Soft_Reset is in flight, on the message's kind

stage_resets : (q : Request) (f : Frame) (base : State) {n : ℕ} {t : State} {fs : List Frame} → Stage q f base n t fs
    → q.soft ≡ true → end_of q ≤ n → n < end_of q + end_of q → Resetting t f.kind
stage_resets q f base (sending k w few short is) soft late early = absurd (omega arith)
stage_resets q f base (resetting k w soft few short is) soft' late early =
    record { request = goes_on (soft_reset f.kind) k w q; is = refl; phase = refl }
stage_resets q f base (message_over off h) soft late early = absurd (true≢false (sym soft ∙ off))
stage_resets q f base (reset_over soft hard h) soft' late early = absurd (omega arith)
stage_resets q f base (hard_reset_sent soft hard h) soft' late early = absurd (omega arith)

pub resets_after_start : (s : State) (e : Event) (f : Frame) (room : ℕ) (ns : List ℕ) → frame_room ≤ room → AllParts ns → Started s e f
    → (latched s).soft ≡ true → end_of (latched s) ≤ in_all ns → in_all ns < end_of (latched s) + end_of (latched s)
    → Resetting (after s (e ∷ passing room ns)) f.kind
resets_after_start s e f room ns enough parts st = stage_resets (latched s) f _ (started_runs s e f room enough st ns parts)

-- ---- while there are retries to send, the next wait sends one

-- before its last wait a request has so many waits of the message behind it
stage_again : (q : Request) (f : Frame) (base : State) → spelt base.tx ≡ some f → {n : ℕ} {t : State} {fs : List Frame} → Stage q f base n t fs
    → (k : ℕ) → n ≡ k * wait → k < q.retries → (passes wait t.request t).frames ≡ f ∷ []
unfolding passes
stage_again q f base spells (sending j w few short is) k at more =
    ap (λ (x : Effect). x.frames) (sends_again q f base j w (w + wait) (omega arith) (omega arith) spells)
stage_again q f base spells (resetting j w soft few short is) k at more = absurd (omega arith)
stage_again q f base spells (message_over soft h) k at more = absurd (omega arith)
stage_again q f base spells (reset_over soft hard h) k at more = absurd (omega arith)
stage_again q f base spells (hard_reset_sent soft hard h) k at more = absurd (omega arith)

all_waits : (n : ℕ) → AllParts (replicate n wait) × (in_all (replicate n wait) ≡ n * wait)
all_waits zero = (tt, refl)
all_waits (suc n) = let rest = all_waits n in ((omega arith, rest.0), omega (arith, rest.1))

pub next_sent : (s : State) (e : Event) (f : Frame) (room : ℕ) → frame_room ≤ room → Started s e f → (n : ℕ) → n < (latched s).retries
    → (step (after s (e ∷ waits room n)) (pass room wait)).frames ≡ f ∷ []
next_sent s e f room enough st n more =
    let parts = all_waits n in
    let o = start_opened s e f st in
    (pass_step _ room wait enough (omega arith)).1
    ∙ stage_again (latched s) f o.base o.spells (started_runs s e f room enough st (replicate n wait) parts.0) n parts.1 more
