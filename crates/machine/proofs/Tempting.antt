-- What a tired builder forgets: data, latched bits, time and command bits (Receiving has packets, Masking the masks).
-- Assumes nothing.
use mathlib.Core.Path.{◌≡◌, refl, sym, ap, ap₂, ◌∙◌}
use mathlib.Core.Bool.{Bool, true, false, not, cond}
use mathlib.Core.List.{List, [], ◌∷◌, ◌++◌, append-nil}
use mathlib.Core.Option.{Option, none, some}
use Prim.Native.Nat.{ℕ, suc, ◌+◌, ◌-◌, ◌<◌, ◌≤◌}
use native.Mathlib.Omega.{arith}
use borrow.Author.Tests.{lt-ltb, ltb-true, ltb-false}
use lib.Bits.{bit_and}
use lib.Dec.{ltb, eqb}
use lib.ListN.{get_or}
use Rattle.line.specs.Frame.{Frame}
use Rattle.line.specs.Refusal.{first_no}
use Rattle.machine.specs.Registers.{stored_bits, cell, has}
use Rattle.machine.specs.State.{Phase, message, soft_reset, Request, State, with_cells, with_tx, with_request, shows, raises, raises_a}
use Rattle.machine.specs.Status.{tx_full, RETRYFAIL, I_RETRYFAIL, I_ALERT}
use Rattle.machine.specs.Queue.{inside, spelt}
use Rattle.machine.specs.Requests.{Effect, silent, sends_if, over, wait, soft_reset_of, hard_reset_frame, flight, flight_in, goes_on, soft_reset_follows, message_fails, soft_fails, fails, expires, elapses, passes}
use Rattle.machine.specs.Packets.{only_if}
use Rattle.machine.specs.Events.{pass}
use Rattle.machine.specs.Refusals.{no12, no1, no2, no6, no3, no5, no4, no7, no8, no11, no9, no10, refusal}
use Rattle.machine.specs.Step.{queues, accepted, result_of, step, after, frames}
use Rattle.machine.specs.Good.{OpenGood}
use Rattle.machine.specs.Theorems.{DataIsData, LatchedGoverns, TimeAdds, CommandsNotStored}
use Rattle.machine.proofs.Masks.{outside, cells_at}
use Rattle.machine.proofs.Masking.{passes_with}
use Rattle.machine.proofs.Messages.{stored_step}
use Rattle.machine.proofs.Retrying.{pass_step, before_the_end, past_the_end}

-- ---- data

queued_tx : (s : State) (v : ℕ) → (queues v s).tx ≡ s.tx ++ (v ∷ [])
unfolding queues
queued_tx s v = go (tx_full (with_tx (s.tx ++ (v ∷ [])) s))
  where
    go : (b : Bool) → (only_if b (raises I_ALERT) (with_tx (s.tx ++ (v ∷ [])) s)).tx ≡ s.tx ++ (v ∷ [])
    go true = refl
    go false = refl

pub data_is_data : DataIsData
unfolding inside
data_is_data s room v enough i free h =
    let p = stored_step s room v enough free (rw i refl) h in
    (ap (λ (t : State). t.tx) p.0 ∙ queued_tx s v, p.1)

-- ---- time: registers have no part in it

pub latched_governs : LatchedGoverns
unfolding step refusal first_no no12 no1 no2 no6 no3 no5 no4 no7 no8 no11 no9 no10 result_of accepted
latched_governs s cells room n = go (refusal s (pass room n))
  where
    go : (o : Option ℕ)
        → ((result_of o (with_cells cells s) (pass room n)).frames ≡ (result_of o s (pass room n)).frames)
        × ((result_of o (with_cells cells s) (pass room n)).state.request ≡ (result_of o s (pass room n)).state.request)
    go (some k) = (refl, refl)
    go none = let same = passes_with cells n s.request s in (ap (λ (x : Effect). x.frames) same, ap (λ (x : Effect). x.state.request) same)

-- ---- time: two parts are one

-- an effect, and then m microseconds
onward : ℕ → Effect → Effect
onward m x =
    record { state = (passes m x.state.request x.state).state; frames = x.frames ++ (passes m x.state.request x.state).frames }

-- a request by its parts
abbrev asking : ℕ → ℕ → Bool → Bool → Phase → ℕ → ℕ → Request
asking a r soft hard p k w = record { switches1 = a; retries = r; soft = soft; hard = hard; phase = p; sent = k; waited = w }

module _ (s : State) (a r : ℕ) (soft hard : Bool) (k : ℕ) where
  resets_once : (o : Option Frame) (v w t : ℕ) (u : State) → soft_reset_follows t (asking a r soft hard message k v) o u ≡ soft_reset_follows t (asking a r soft hard message k w) o u
  resets_once none v w t u = refl
  resets_once (some f) v w t u = refl

  -- how long a request has waited is told by the time in all, and not twice
  waited_once : (p : Phase) (v w t : ℕ)
      → elapses t (asking a r soft hard p k v) (with_request (some (asking a r soft hard p k v)) s) ≡ elapses t (asking a r soft hard p k w) s
  unfolding elapses expires fails flight_in message_fails soft_fails
  waited_once message v w t = rw (resets_once (spelt s.tx) v w (t - wait) (raises_a I_RETRYFAIL (shows RETRYFAIL (over s)))) refl
  waited_once (soft_reset i) v w t = refl

module _ (m : ℕ) where
  -- the request goes on and its wait does not run out; or there is none
  still : (fs : List Frame) (q : Request) (s : State) → q.waited + m < wait
      → onward m (record { state = with_request (some q) s; frames = fs })
      ≡ record { state = with_request (some (goes_on q.phase q.sent (q.waited + m) q)) s; frames = fs }
  unfolding onward passes elapses
  still fs q s h = simp (lt-ltb (q.waited + m) wait h, append-nil)

  idle : (fs : List Frame) (s : State) → s.request ≡ none → onward m (record { state = s; frames = fs }) ≡ record { state = s; frames = fs }
  unfolding onward passes
  idle fs s e = simp (e, append-nil)

  onward_cond : (b : Bool) (x y u v : Effect) → onward m x ≡ u → onward m y ≡ v → onward m (cond b x y) ≡ cond b u v
  onward_cond true x y u v p q = p
  onward_cond false x y u v p q = q

  module _ (s : State) (q : Request) (w : ℕ) (h : w + m < wait) where
    sends_onward : (o : Option Frame)
        → onward m (sends_if o (with_request (some (goes_on q.phase (suc q.sent) w q)) s))
        ≡ sends_if o (with_request (some (goes_on q.phase (suc q.sent) (w + m) q)) s)
    sends_onward none = still [] (goes_on q.phase (suc q.sent) w q) s h
    sends_onward (some f) = still (f ∷ []) (goes_on q.phase (suc q.sent) w q) s h

    resets_onward : (o : Option Frame) (t : State) → t.request ≡ none → onward m (soft_reset_follows w q o t) ≡ soft_reset_follows (w + m) q o t
    resets_onward none t e = idle [] t e
    resets_onward (some f) t e = still (soft_reset_of f.kind q ∷ []) (goes_on (soft_reset f.kind) 0 w q) t h

    fails_onward : (p : Phase) → onward m (fails p w q s) ≡ fails p (w + m) q s
    unfolding fails message_fails soft_fails
    fails_onward message = onward_cond q.soft _ _ _ _ (resets_onward (spelt s.tx) _ refl) (idle [] _ refl)
    fails_onward (soft_reset k) = onward_cond q.hard _ _ _ _ (idle (hard_reset_frame ∷ []) _ refl) (idle [] _ refl)

    expires_onward : onward m (expires w q s) ≡ expires (w + m) q s
    unfolding expires
    expires_onward = onward_cond (ltb q.sent q.retries) _ _ _ _ (sends_onward (flight s q)) (fails_onward q.phase)

  waiting : (s : State) (q : Request) (w : ℕ) → onward m (silent (with_request (some (goes_on q.phase q.sent w q)) s)) ≡ elapses (w + m) q s
  unfolding onward passes
  waiting s q w =
      waited_once s q.switches1 q.retries q.soft q.hard q.sent q.phase w q.waited (w + m)

  elapses_onward : (s : State) (q : Request) (w : ℕ) → w + m < wait + wait → onward m (elapses w q s) ≡ elapses (w + m) q s
  elapses_onward s q w h = go (ltb w wait) refl
    where
      go : (b : Bool) → ltb w wait ≡ b → onward m (elapses w q s) ≡ elapses (w + m) q s
      go true e = ap (onward m) (before_the_end s q w (ltb-true w wait e)) ∙ waiting s q w
      go false e =
          let z = ltb-false w wait e in
          ap (onward m) (past_the_end s q w z) ∙ expires_onward s q (w - wait) (omega arith)
          ∙ ap (λ (t : ℕ). expires t q s) (omega arith) ∙ sym (past_the_end s q (w + m) (omega arith))

passes_onward : (s : State) (n m : ℕ) → n + m ≤ wait → (o : Option Request) → OpenGood o s.tx → s.request ≡ o
    → onward m (passes n o s) ≡ passes (n + m) o s
unfolding passes
passes_onward s n m h none g e = idle m [] s e
passes_onward s n m h (some q) g e =
    let w = g.waited in
    elapses_onward m s q (q.waited + n) (omega arith) ∙ ap (λ (t : ℕ). elapses t q s) (omega arith)

pub time_adds : TimeAdds
unfolding after frames onward
time_adds s room n m g enough h =
    let a = pass_step s room n enough (omega arith) in
    let b = pass_step (step s (pass room n)).state room m enough (omega arith) in
    let c = pass_step s room (n + m) enough h in
    let t = passes_onward s n m h s.request g.request refl in
    let next : State → Effect = λ u. passes m u.request u in (
      b.0 ∙ ap (λ (u : State). (next u).state) a.0 ∙ ap (λ (x : Effect). x.state) t ∙ sym c.0,
      ap₂ (λ (x y : List Frame). x ++ (y ++ [])) a.1 (b.1 ∙ ap (λ (u : State). (next u).frames) a.0)
          ∙ simp append-nil (ap (λ (x : Effect). x.frames) t ∙ sym c.1),
    )

-- ---- command bits

pub commands_not_stored : CommandsNotStored
unfolding has cell
commands_not_stored s g =
    (not_in 4 0x41 refl, (not_in 5 0x04 refl, (not_in 7 0x40 refl, not_in 10 0x03 refl)))
  where
    not_in : (i k : ℕ) → bit_and (get_or stored_bits i 0) k ≡ 0 → not (eqb (bit_and (get_or s.cells i 0) k) 0) ≡ false
    not_in i k e = ap (λ (x : ℕ). not (eqb x 0)) (outside (get_or stored_bits i 0) k (get_or s.cells i 0) (cells_at stored_bits s.cells i g.cells) e)
