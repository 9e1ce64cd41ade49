-- What time does to an open request: the effect of each way out.
-- Assumes nothing.
use Rattle.std.specs.Prelude as rust
use Rattle.std.specs.Prelude.{Some, None}
use mathlib.Core.Path.{◌≡◌, refl, sym, ap, ◌∙◌, subst}
use mathlib.Core.Bool.{Bool, true, false, cond}
use mathlib.Core.List.{List, [], ◌∷◌, ◌++◌}
use mathlib.Core.Option.{Option, none, some}
use Prim.Native.Nat.{ℕ, ◌+◌, ◌-◌, ◌<◌, ◌≤◌}
use native.Mathlib.Numerals.{add-one}
use native.Mathlib.Omega.{arith}
use borrow.Author.Tests.{lt-ltb, le-ltb}
use lib.ListN.{length, drop}
use Rattle.std.specs.Array.{IsFirstChunk}
use Rattle.line.specs.Numbered.{sop_number}
use Rattle.line.specs.Write.{frame_room}
use Rattle.machine.specs.State as machine
use Rattle.machine.specs.State.{Phase, message, soft_reset, State, with_request, shows, raises_a}
use Rattle.machine.specs.Status.{SOFTFAIL, RETRYFAIL, I_SOFTFAIL, I_RETRYFAIL, I_HARDSENT}
use Rattle.machine.specs.Queue.{spelt}
use Rattle.machine.specs.Requests.{
  silent,
  hard_reset_frame,
  soft_reset_of,
  flight_in,
  flight,
  over,
  goes_on,
  soft_reset_follows,
  message_fails,
  soft_fails,
  fails,
  expires,
  elapses,
  passes,
}
use Rattle.machine.specs.Events.{pass}
use Rattle.machine.specs.Step.{accepted, reply_to}
use Rattle.machine.proofs.Checking.{pass_checks}
use Rattle.fusb302.specs.declared.queue.Message.{Message}
use Rattle.fusb302.specs.declared.device.Device.{Device}
use Rattle.fusb302.specs.declared.device.Request.{Request}
use Rattle.std.specs.Prelude.{None, Ok, Err}
use Rattle.fusb302.specs.declared.refusals.No.TheVariants.{SmallBuffer, TimeTooLong}
use Rattle.fusb302.specs.declared.device.Outcome.{Outcome}
use Rattle.fusb302.specs.Queued.{queued, spelt_as}
use Rattle.fusb302.specs.View.{phase_of, asked, request_of, view, Asks}
use Rattle.fusb302.specs.Serves.{if_any, Becomes, Sends, Does, Serves}
use Rattle.fusb302.proofs.Serving.{serves_no, serves_no_in, serves_in}
use Rattle.fusb302.proofs.Sending.{by_answer}
use Rattle.fusb302.proofs.Becoming.{done, itself, and_then, silently, sending, if_sending}

-- ---- failures

module _ (d t : Device) (q : Request) (before : List ℕ) where
  module _ (failed : Becomes (raises_a I_SOFTFAIL (shows SOFTFAIL (over (view d)))) t) where
    pub soft_ends : q.hard ≡ false → Does (soft_fails (asked q) (view d)) before (done t 0) before
    unfolding soft_fails
    soft_ends e = rw e (silently _ t failed before)

    pub soft_hard : q.hard ≡ true → (u : Device) → Becomes (raises_a I_HARDSENT (view t)) u → (n : ℕ) (after : List ℕ)
        → Sends (hard_reset_frame ∷ []) before n after → Does (soft_fails (asked q) (view d)) before (done u n) after
    unfolding soft_fails
    soft_hard e u h n after sent = rw e (sending _ u (and_then _ t failed (raises_a I_HARDSENT) u h) before n after hard_reset_frame sent)

  module _ (w : ℕ) (failed : Becomes (raises_a I_RETRYFAIL (shows RETRYFAIL (over (view d)))) t) where
    pub message_ends : q.soft ≡ false → Does (message_fails w (asked q) (view d)) before (done t 0) before
    unfolding message_fails
    message_ends e = rw e (silently _ t failed before)

    -- as the machine's Soft_Reset goes on from there
    pub message_soft : q.soft ≡ true → (r : Outcome) (after : List ℕ)
        → Does (soft_reset_follows w (asked q) (spelt (queued d.tx)) (view t)) before r after
        → Does (message_fails w (asked q) (view d)) before r after
    unfolding message_fails
    message_soft e r after h =
        let on = subst (λ (s : State). Does (soft_reset_follows w (asked q) (spelt (queued d.tx)) s) before r after) failed.state h in
        let over-now = raises_a I_RETRYFAIL (shows RETRYFAIL (over (view d))) in
        let x = soft_reset_follows w (asked q) (spelt (queued d.tx)) over-now in
        subst (λ (b : Bool). Does (cond b x (silent over-now)) before r after) (sym e) on

-- ---- the Soft_Reset on the kind of the message that the queue spelt

module _ (d t : Device) (q : Request) (before : List ℕ) (o : rust.Option Message) (is : spelt_as o ≡ spelt (queued d.tx))
    (failed : Becomes (raises_a I_RETRYFAIL (shows RETRYFAIL (over (view d)))) t) (soft : q.soft ≡ true) where
  pub follows_nothing : o ≡ None → Does (message_fails q.waited (asked q) (view d)) before (done t 0) before
  follows_nothing e =
      let nothing : none ≡ spelt (queued d.tx) = rw e at is in
      message_soft d t q before q.waited failed soft (done t 0) before (rw (← nothing) (silently _ t (itself t) before))

  module _ (m : Message) (e : o ≡ Some m) where
    abbrev k : ℕ
    k = sop_number m.kind

    pub follows_on : (u : Device) → Becomes (with_request (some (goes_on (soft_reset k) 0 q.waited (asked q))) (view t)) u → (c : ℕ) (after : List ℕ)
        → Sends (soft_reset_of k (asked q) ∷ []) before c after → Does (message_fails q.waited (asked q) (view d)) before (done u c) after
    follows_on u h c after sent =
        message_soft d t q before q.waited failed soft (done u c) after
        (rw (by_answer d.tx o is m e) (sending _ u h before c after (soft_reset_of k (asked q)) sent))

-- ---- a wait that ran out

-- the request's own wait is that of the next
module _ (s : State) (w : ℕ) (q : machine.Request) where
  abbrev waiting : Phase → ℕ → machine.Request
  waiting p n = record { switches1 = q.switches1; retries = q.retries; soft = q.soft; hard = q.hard; phase = p; sent = q.sent; waited = n }

  of_waits : (p : Phase) → expires w (waiting p w) s ≡ expires w (waiting p q.waited) s
  unfolding expires flight_in fails message_fails soft_fails
  of_waits message = refl
  of_waits (soft_reset k) = refl

  pub own_wait : expires w (goes_on q.phase q.sent w q) s ≡ expires w q s
  own_wait = of_waits q.phase

module _ (d : Device) (old : Request) (before : List ℕ) where
  pub expires_again : old.sent < old.retries
      → (u : Device) → Becomes (with_request (some (goes_on (phase_of old.resetting) (old.sent + 1) old.waited (asked old))) (view d)) u
      → (n : ℕ) (after : List ℕ)
      → Sends (if_any (flight_in (phase_of old.resetting) (asked old) (queued d.tx))) before n after
      → Does (expires old.waited (asked old) (view d)) before (done u n) after
  unfolding expires
  expires_again h u x n after sent =
      rw (lt-ltb old.sent old.retries h, ← add-one old.sent)
      (if_sending _ u x before n after
      (flight (view d) (asked old)) sent)

  -- what was in flight failed
  pub expires_last : (r : Outcome) (after : List ℕ) → old.retries ≤ old.sent → (p : Phase)
      → phase_of old.resetting ≡ p → Does (fails p old.waited (asked old) (view d)) before r after
      → Does (expires old.waited (asked old) (view d)) before r after
  unfolding expires
  expires_last r after last p e h =
      rw (
        le-ltb old.sent old.retries last,
        ap (λ (x : Phase). fails x old.waited (asked old) (view d)) e,
      )
      h

-- ---- time that passes

module _ (d : Device) (asks : Asks d) (before : List ℕ) (us : ℕ) where
  pub pass_small : length before < frame_room → Serves (pass (length before) us) d before (record { device = d; reply = Err SmallBuffer; count = 0 }) before
  pass_small h =
      serves_no (pass (length before) us) d before asks SmallBuffer (pass_checks (view d) (length before) us ∙ simp (lt-ltb (length before) frame_room h))

  module _ (frame : List ℕ) (first : IsFirstChunk before frame frame_room) where
    pub pass_long : 1000 < us → Serves (pass (length before) us) d before (record { device = d; reply = Err TimeTooLong; count = 0 }) (frame ++ drop frame_room before)
    pass_long h =
        serves_no_in (pass (length before) us) d before asks frame first TimeTooLong
        (pass_checks (view d) (length before) us ∙ simp (le-ltb (length before) frame_room first.enough, lt-ltb 1000 us h))

    module _ (short : us ≤ 1000) where
      passed : (o : Option machine.Request) → request_of d.request ≡ o → (r : Outcome) (after : List ℕ)
          → Does (passes us o (view d)) frame r after → Serves (pass (length before) us) d before r (after ++ drop frame_room before)
      unfolding accepted reply_to
      passed o is r after x =
          serves_in (pass (length before) us) d before asks frame first
          (pass_checks (view d) (length before) us ∙ simp (le-ltb (length before) frame_room first.enough, le-ltb 1000 us short)) (omega arith)
          refl r after (subst (λ q. Does (passes us q (view d)) frame r after) (sym is) x)

      pub pass_idle : d.request ≡ None → Serves (pass (length before) us) d before (record { device = d; reply = Ok None; count = 0 }) (frame ++ drop frame_room before)
      unfolding passes
      pass_idle e =
          passed none (ap request_of e) _ frame (silently _ d (itself d) frame)

      module _ (old : Request) (open-as : d.request ≡ Some old) where
        is : request_of d.request ≡ some (asked old)
        is = ap request_of open-as

        pub pass_waits : old.waited + us < 1000
            → (u : Device) → Becomes (with_request (some (goes_on (phase_of old.resetting) old.sent (old.waited + us) (asked old))) (view d)) u → Serves (pass (length before) us) d before (done u 0) (frame ++ drop frame_room before)
        unfolding passes elapses
        pass_waits h u x =
            passed _ is _ frame
            (rw (lt-ltb (old.waited + us) 1000 h)
            (silently _ u x frame))

        pub pass_expires : 1000 ≤ old.waited + us → (r : Outcome) (after : List ℕ) (w : ℕ) → w ≡ old.waited + us - 1000
            → Does (expires w (goes_on (phase_of old.resetting) old.sent w (asked old)) (view d)) frame r after
            → Serves (pass (length before) us) d before r (after ++ drop frame_room before)
        unfolding passes elapses
        pass_expires h r after w e x =
            passed _ is r after (rw (le-ltb (old.waited + us) 1000 h, ← e, ← own_wait (view d) w (asked old)) x)
