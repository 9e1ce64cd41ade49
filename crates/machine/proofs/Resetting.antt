-- The Soft_Reset goes to the one that was silent: what its frame says, on which kind it is in flight, and what answers it (02, A2).
-- Assumes nothing.
use mathlib.Core.Path.{◌≡◌, refl, sym, ap, ◌∙◌, subst}
use mathlib.Core.Bool.{Bool, true, false, cond, ◌&&◌, ◌||◌, and-eq-true_iff, true≢false}
use mathlib.Core.List.{List, [], ◌∷◌, ◌++◌}
use mathlib.Core.Logic.{◌⊎◌, inl, inr, ⊎_elim}
use mathlib.Core.Option.{Option, none, some}
use Prim.Native.Nat.{ℕ, suc, ◌+◌, ◌-◌, ◌≤◌}
use native.Mathlib.Omega.{arith}
use borrow.Author.Tests.{eqb-true, eq-eqb, ltb-false}
use lib.Dec.{ltb, eqb}
use Rattle.line.specs.Crc.{crc_right}
use Rattle.line.specs.Frame.{Frame}
use Rattle.machine.specs.Registers.{control0, control1, control3, reset, fifos, stored, has, TX_FLUSH, TX_START, RX_FLUSH, SEND_HARD_RESET, SW_RES, PD_RESET}
use Rattle.machine.specs.State.{Phase, message, soft_reset, Request, State, with_cells, with_tx, with_request}
use Rattle.machine.specs.Status.{tx_full, reports, RETRYFAIL, I_TXSENT, I_SOFTRST}
use Rattle.machine.specs.Queue.{spelt}
use Rattle.machine.specs.Headers.{GoodCRC, Soft_Reset, two_octets, message_id, is_control}
use Rattle.machine.specs.Requests.{Effect, silent, sends, sends_if, soft_reset_of, hard_reset_frame, flight, flight_in, latched, start, over, acknowledged, send_hard_reset, hard_reset_heard, goes_on, wait, soft_reset_follows, message_fails, soft_fails, fails, expires, elapses, passes}
use Rattle.machine.specs.Packets.{kind_on, awaited, awaited_by, only_if, checks, soft_reset_heard, noted, accepts, hears}
use Rattle.machine.specs.Events.{Event, write, read, pass, hard_reset, packet, sense}
use Rattle.machine.specs.Refusals.{tx_start, port_start, no6, table, refusal}
use Rattle.machine.specs.Step.{Result, restored, pd_reset, queues, control0_written, control1_written, control3_written, reset_written, port_written, commands, writes, sw_reset, written, after_read, senses, accepted, result_of, step}
use Rattle.machine.specs.Theorems.{SoftResetSays, Resetting, OneStart, Whence, begun, continued, followed, ResetsOnKind, Acknowledges, HeardRight, ResetAnswered}
use Rattle.machine.proofs.Refusing.{first_none_exactly}
use Rattle.machine.proofs.Staying.{control_whole}
use Rattle.machine.proofs.Heading.{Fields, fields, control_id}
use Rattle.machine.proofs.Receiving.{accepts_leaves, awaited_ends}
use Rattle.machine.proofs.Retrying.{has_set, has_other, resets_after_start}

-- ---- its frame

module _ (k : ℕ) (q : Request) where
  of_reset : Fields Soft_Reset k q.switches1 0 (omega arith) (omega arith)
  of_reset = fields Soft_Reset k q.switches1 0 (omega arith) (omega arith)

  pub reset_id : message_id (soft_reset_of k q).octets ≡ 0
  reset_id = control_id Soft_Reset k q.switches1 0 (omega arith) (omega arith)

pub soft_reset_says : SoftResetSays
unfolding two_octets
soft_reset_says k q h =
    let d = (of_reset k q).data_role in
    let r = (of_reset k q).revision in
    let p = (of_reset k q).power_role in
    let says = (of_reset k q).says in
    record {
      whole = control_whole Soft_Reset k q.switches1 0 h;
      kind = refl;
      alone = refl;
      type = omega arith;
      bit_4 = omega arith;
      data_role = omega arith;
      revision = omega arith;
      power_role = omega arith;
      id = reset_id k q;
      count = omega arith;
      bit_15 = omega arith;
    }

-- ---- whence it comes

-- of a value by test, what holds of both ways
by_test : {A : Type 0} (P : A → Type 0) (b : Bool) (x y : A) → (b ≡ true → P x) → (b ≡ false → P y) → P (cond b x y)
by_test P true x y p q = p refl
by_test P false x y p q = q refl

-- what an event other than time makes of the request: it stands and so does its queue, it is over, or it is new
data Became (s t : State) : Type 0 where
  same : t.request ≡ s.request → t.tx ≡ s.tx → Became s t
  gone : t.request ≡ none → Became s t
  new : s.request ≡ none → t.request ≡ some (latched t) → Became s t

record BecameBy (s : State) (x : Effect) : Type 0 where
  state : Became s x.state

sent_state : (o : Option Frame) (t : State) → (sends_if o t).state ≡ t
sent_state none t = refl
sent_state (some f) t = refl

module _ (s : State) where
  quietly : (t : State) → Became s t → BecameBy s (silent t)
  quietly t h = record { state = h }

  start_became : s.request ≡ none → (t : State) → BecameBy s (start t)
  unfolding start latched
  start_became free t = record { state = subst (Became s) (sym (sent_state (spelt t.tx) _)) (new free refl) }

  -- a packet ends the request or leaves it and its queue
  noted_became : (j : ℕ) (m : List ℕ) → ((noted j m s).request ≡ none) ⊎ (((noted j m s).request ≡ s.request) × ((noted j m s).tx ≡ s.tx))
  noted_became j m = go (is_control Soft_Reset m) (awaited j m s)
    where
      go : (b c : Bool) → let t = only_if b soft_reset_heard (only_if c acknowledged (checks s)) in
          (t.request ≡ none) ⊎ ((t.request ≡ s.request) × (t.tx ≡ s.tx))
      go true true = inl refl
      go true false = inr (refl, refl)
      go false true = inl refl
      go false false = inr (refl, refl)

  accepts_became : (j : ℕ) (m : List ℕ) → Became s (accepts j m s).state
  accepts_became j m =
      let l = accepts_leaves j m s in
      ⊎_elim (λ e. gone (l.request ∙ e)) (λ e. same (l.request ∙ e.0) (l.tx ∙ e.1)) (noted_became j m)

  hears_became : (j : ℕ) (m : List ℕ) → BecameBy s (hears j m s)
  unfolding hears
  hears_became j m =
      by_test (BecameBy s) (kind_on j s) _ _
      (λ e. by_test (BecameBy s) (crc_right m) _ _ (λ e. record { state = accepts_became j m }) (λ e. quietly _ (same refl refl)))
      (λ e. quietly s (same refl refl))

  commands_became : (a v : ℕ) (t : State) → t.request ≡ s.request → t.tx ≡ s.tx
      → (eqb a control0 ≡ true → has TX_START v ≡ true → s.request ≡ none) → BecameBy s (commands a v t)
  unfolding commands control0_written control1_written control3_written send_hard_reset reset_written restored pd_reset
  commands_became a v t e f free =
      by_test (BecameBy s) (eqb a control0) _ _
      (λ g. by_test (BecameBy s) (has TX_START v) _ _ (λ h. start_became (free g h) (only_if (has TX_FLUSH v) over t))
      (λ h. quietly _ (by_test (Became s) (has TX_FLUSH v) _ _ (λ h. gone refl) (λ h. same e f))))
      (λ h. by_test (BecameBy s) (eqb a control1) _ _ (λ h. quietly _ (by_test (Became s) (has RX_FLUSH v) _ _ (λ h. same e f) (λ h. same e f)))
      (λ h. by_test (BecameBy s) (eqb a control3) _ _
      (λ h. by_test (BecameBy s) (has SEND_HARD_RESET v) _ _ (λ h. record { state = gone refl }) (λ h. quietly t (same e f)))
      (λ h. by_test (BecameBy s) (eqb a reset) _ _
      (λ h. quietly _ (by_test (Became s) (has SW_RES v) _ _ (λ h. gone refl)
      (λ h. by_test (Became s) (has PD_RESET v) _ _ (λ h. gone refl) (λ h. same e f))))
      (λ h. quietly t (same e f)))))

  -- at the port, where no request is open
  port_became : (v : ℕ) → s.request ≡ none → BecameBy s (port_written v s)
  unfolding port_written queues
  port_became v e =
      by_test (BecameBy s) (port_start s fifos v) _ _ (λ h. start_became e s)
      (λ h. quietly _ (by_test (Became s) (tx_full (with_tx (s.tx ++ (v ∷ [])) s)) _ _ (λ h. gone e) (λ h. gone e)))

  writes_became : (a v : ℕ) → ((eqb a fifos || tx_start a v) ≡ true → s.request ≡ none) → BecameBy s (writes a v s)
  unfolding writes tx_start
  writes_became a v free =
      by_test (BecameBy s) (eqb a fifos) _ _ (λ h. port_became v (free (rw h refl)))
      (λ h. commands_became a v (with_cells (stored a v s.cells) s) refl refl (λ g i. free (rw (h, g, i) refl)))

  written_became : (a v : ℕ) → ((eqb a fifos || tx_start a v) ≡ true → s.request ≡ none) → Became s (written a v s).state
  unfolding written latched
  written_became a v free =
      let h = (writes_became a v free).state in by_test (Became s) (sw_reset a v) _ _ (λ e. h) (λ e. reported h)
    where
      reported : {t : State} → Became s t → Became s (reports s t)
      reported (same e f) = same e f
      reported (gone e) = gone e
      reported (new free e) = new free e

  read_became : (a : ℕ) → Became s (after_read a s)
  unfolding after_read
  read_became a = by_test (Became s) (eqb a fifos) _ _ (λ e. same refl refl) (λ e. same refl refl)

-- a request in another phase, with other counts, has what its start latched
one_start : (p : Phase) (n w : ℕ) (q r : Request) → goes_on p n w q ≡ r → OneStart q r
one_start p n w q r it =
    subst (OneStart q) it (record { switches1 = refl; retries = refl; soft = refl; hard = refl })

-- a request after an effect, and whence it comes
record WhenceBy (s : State) (x : Effect) : Type 0 where
  whence : (r : Request) → x.state.request ≡ some r → (y : Result) → y.state ≡ x.state → y.frames ≡ x.frames → Whence s y r

module _ (s : State) where
  from_became : (x : Effect) → Became s x.state → WhenceBy s x
  from_became x (same e f) =
      record {
        whence = λ r is y p q.
            continued r (sym e ∙ is)
            (record {
              start = record { switches1 = refl; retries = refl; soft = refl; hard = refl };
              phase = refl;
              queue = ap (λ (u : State). u.tx) p ∙ f;
            });
      }
  from_became x (gone e) = record { whence = λ r is y p q. let z : ◌≡◌ {A = ℕ} 0 1 = cc in absurd (omega arith) }
  from_became x (new free e) =
      record {
        whence = λ r is y p q.
            let it : r ≡ latched x.state = cc in begun free (it ∙ ap latched (sym p));
      }

  module _ (q : Request) (open_now : s.request ≡ some q) where
    -- the request goes on in its phase
    goes_whence : (o : Option Frame) (n w : ℕ) → WhenceBy s (sends_if o (with_request (some (goes_on q.phase n w q)) s))
    goes_whence o n w =
        record {
          whence = λ r is y p f.
              let t = with_request (some (goes_on q.phase n w q)) s in
              let one : some (goes_on q.phase n w q) ≡ some r = sym (ap (λ (u : State). u.request) (sent_state o t)) ∙ is in
              let it : goes_on q.phase n w q ≡ r = cc in
              continued q open_now
              (record {
                start = one_start q.phase n w q r it;
                phase = ap (λ (x : Request). x.phase) (sym it);
                queue = ap (λ (u : State). u.tx) (p ∙ sent_state o t);
              });
        }

    resets_whence : (w : ℕ) → q.phase ≡ message → q.retries ≤ q.sent → q.soft ≡ true → (o : Option Frame) → spelt s.tx ≡ o
        → (t : State) → t.request ≡ none → has RETRYFAIL t.status.status0a ≡ true → WhenceBy s (soft_reset_follows w q o t)
    resets_whence w phase last soft none spells t free failed = from_became (silent t) (gone free)
    resets_whence w phase last soft (some f) spells t free failed =
        record {
          whence = λ r is y p left.
              let it : goes_on (soft_reset f.kind) 0 w q ≡ r = cc in
              followed q open_now
              (record {
                start = one_start (soft_reset f.kind) 0 w q r it;
                frame = f;
                spells = spells;
                sending = phase;
                last = last;
                soft = soft;
                failed = ap (λ (u : State). has RETRYFAIL u.status.status0a) p ∙ failed;
                phase = ap (λ (x : Request). x.phase) (sym it);
                sent = left ∙ ap (λ (x : Request). soft_reset_of f.kind x ∷ []) it;
              });
        }

    fails_whence : (p : Phase) → q.phase ≡ p → q.retries ≤ q.sent → (w : ℕ) → WhenceBy s (fails p w q s)
    unfolding fails message_fails soft_fails
    fails_whence message phase last w =
        by_test (WhenceBy s) q.soft _ _
        (λ e. resets_whence w phase last e (spelt s.tx) refl _ refl (has_set s.status.status0a RETRYFAIL))
        (λ e. from_became (silent _) (gone refl))
    fails_whence (soft_reset j) phase last w =
        by_test (WhenceBy s) q.hard _ _ (λ e. from_became (sends hard_reset_frame _) (gone refl)) (λ e. from_became (silent _) (gone refl))

    elapses_whence : (w : ℕ) → WhenceBy s (elapses w q s)
    unfolding elapses expires
    elapses_whence w =
        by_test (WhenceBy s) (ltb w wait) _ _ (λ e. goes_whence none q.sent w)
        (λ e. by_test (WhenceBy s) (ltb q.sent q.retries) _ _ (λ e. goes_whence (flight s q) (suc q.sent) (w - wait))
        (λ e. fails_whence q.phase refl (ltb-false q.sent q.retries e) (w - wait)))

  passes_whence : (n : ℕ) (o : Option Request) → s.request ≡ o → WhenceBy s (passes n o s)
  unfolding passes
  passes_whence n none e = from_became (silent s) (same refl refl)
  passes_whence n (some q) e = elapses_whence q e (q.waited + n)

  -- port and TX_START are refused while a request is open
  none_open : (room a v : ℕ) → refusal s (write room a v) ≡ none → (eqb a fifos || tx_start a v) ≡ true → s.request ≡ none
  unfolding refusal no6
  none_open room a v taken e = go s.request refl
    where
      go : (o : Option Request) → s.request ≡ o → s.request ≡ none
      go none h = h
      go (some q) h =
          let row = ((first_none_exactly (table s (write room a v))).0 taken).1.1.1.0 in
          let z : true ≡ false = rw (e, h) at row in
          absurd (true≢false z)

  accepted_whence : (e : Event) → refusal s e ≡ none → WhenceBy s (accepted s e)
  unfolding accepted hard_reset_heard senses
  accepted_whence (write room a v) taken = from_became _ (written_became s a v (none_open room a v taken))
  accepted_whence (read room a) taken = from_became _ (read_became s a)
  accepted_whence (pass room n) taken = passes_whence n s.request refl
  accepted_whence (hard_reset room) taken = from_became _ (gone refl)
  accepted_whence (packet room j m) taken = from_became _ (hears_became s j m).state
  accepted_whence (sense room x y z) taken = from_became _ (same refl refl)

whence_of : (s : State) (e : Event) (r : Request) → (step s e).state.request ≡ some r → Whence s (step s e) r
unfolding step result_of
whence_of s e r = go (refusal s e) refl
  where
    go : (o : Option ℕ) → refusal s e ≡ o → (result_of o s e).state.request ≡ some r → Whence s (result_of o s e) r
    go (some n) taken is = (from_became s (silent s) (same refl refl)).whence r is (result_of (some n) s e) refl refl
    go none taken is = (accepted_whence s e taken).whence r is (result_of none s e) refl refl

-- ---- what time sends of it

-- nothing, the Soft_Reset again, or a Hard Reset
abbrev OneOf : ℕ → Request → List Frame → Type 0
OneOf k q fs = (fs ≡ []) ⊎ ((fs ≡ soft_reset_of k q ∷ []) ⊎ (fs ≡ hard_reset_frame ∷ []))

record OneOfBy (k : ℕ) (q : Request) (x : Effect) : Type 0 where
  frames : OneOf k q x.frames

module _ (k : ℕ) (q : Request) where
  nothing : (t : State) → OneOfBy k q (silent t)
  nothing t = record { frames = inl refl }

  sent_again : (p : Phase) → p ≡ soft_reset k → (t : State) (tx : List ℕ) → OneOfBy k q (sends_if (flight_in p q tx) t)
  unfolding flight_in
  sent_again p e t tx = rw e (record { frames = inr (inl refl) })

  fails_hard : (p : Phase) → p ≡ soft_reset k → (w : ℕ) (s : State) → OneOfBy k q (fails p w q s)
  unfolding fails soft_fails
  fails_hard p e w s = rw e (by_test (OneOfBy k q) q.hard _ _ (λ e. record { frames = inr (inr refl) }) (λ e. nothing _))

  elapses_again : (s : State) → q.phase ≡ soft_reset k → (w : ℕ) → OneOfBy k q (elapses w q s)
  unfolding elapses expires
  elapses_again s phase w =
      by_test (OneOfBy k q) (ltb w wait) _ _ (λ e. nothing _)
      (λ e. by_test (OneOfBy k q) (ltb q.sent q.retries) _ _ (λ e. sent_again q.phase phase _ s.tx) (λ e. fails_hard q.phase phase (w - wait) s))

again_of : (s : State) (room n k : ℕ) (r : Resetting s k) → OneOf k r.request (step s (pass room n)).frames
unfolding step result_of accepted passes
again_of s room n k r = go (refusal s (pass room n))
  where
    passed : OneOfBy k r.request (passes n s.request s)
    passed =
        subst (λ (o : Option Request). OneOfBy k r.request (passes n o s)) (sym r.is)
        (elapses_again k r.request s r.phase (r.request.waited + n))

    go : (o : Option ℕ) → OneOf k r.request (result_of o s (pass room n)).frames
    go (some j) = inl refl
    go none = passed.frames

pub resets_on_kind : ResetsOnKind
resets_on_kind = record { whence = whence_of; again = again_of; after_start = resets_after_start }

-- ---- what answers it

module _ (s : State) (k : ℕ) (r : Resetting s k) (j : ℕ) (m : List ℕ) where
  awaits : awaited j m s ≡ (is_control GoodCRC m && (eqb k j && eqb 0 (message_id m)))
  unfolding awaited_by flight_in
  awaits =
      rw (r.is, r.phase) (ap (λ (i : ℕ). is_control GoodCRC m && (eqb k j && eqb i (message_id m))) (reset_id k r.request))

  awaits_it : (room : ℕ) → Acknowledges s room k j m → awaited j m s ≡ true
  awaits_it room h = awaits ∙ rw (h.good_crc, h.kind, h.id, eq-eqb k k refl) refl

  awaits_no_other : (room : ℕ) → HeardRight s room j m → awaited j m s ≡ true → Acknowledges s room k j m
  awaits_no_other room right e =
      let one = (and-eq-true_iff (is_control GoodCRC m) _).0 (sym awaits ∙ e) in
      let two = (and-eq-true_iff (eqb k j) (eqb 0 (message_id m))).0 one.1 in
      record { right = right; good_crc = one.0; kind = sym (eqb-true k j two.0); id = sym (eqb-true 0 (message_id m) two.1) }

-- what is noted of a packet that is not awaited
noted_stands : (s : State) (j : ℕ) (m : List ℕ) → awaited j m s ≡ false
    → ((noted j m s).request ≡ s.request) × (has I_TXSENT (noted j m s).ints.a ≡ has I_TXSENT s.ints.a)
noted_stands s j m e = rw e (go (is_control Soft_Reset m))
  where
    go : (b : Bool)
        → ((only_if b soft_reset_heard (checks s)).request ≡ s.request) × (has I_TXSENT (only_if b soft_reset_heard (checks s)).ints.a ≡ has I_TXSENT s.ints.a)
    go true = (refl, has_other I_TXSENT s.ints.a I_SOFTRST refl)
    go false = (refl, refl)

not_true : (b : Bool) → (b ≡ true → ⊥) → b ≡ false
not_true true h = absurd (h refl)
not_true false h = refl

off_of : (s : State) (room j : ℕ) (m : List ℕ) → kind_on j s ≡ false
    → ((step s (packet room j m)).state ≡ s) × ((step s (packet room j m)).frames ≡ [])
unfolding step result_of accepted hears
off_of s room j m e = go (refusal s (packet room j m))
  where
    go : (o : Option ℕ) → ((result_of o s (packet room j m)).state ≡ s) × ((result_of o s (packet room j m)).frames ≡ [])
    go (some n) = (refl, refl)
    go none = rw e (refl, refl)

-- request and I_TXSENT are as they were
abbrev Stands : State → State → Type 0
Stands s t = (t.request ≡ s.request) × (has I_TXSENT t.ints.a ≡ has I_TXSENT s.ints.a)

stands_of : (s : State) (room k j : ℕ) (m : List ℕ) → Resetting s k → (Acknowledges s room k j m → ⊥) → Stands s (step s (packet room j m)).state
unfolding step result_of accepted hears
stands_of s room k j m r other = go (refusal s (packet room j m)) refl (kind_on j s) refl (crc_right m) refl
  where
    go : (o : Option ℕ) → refusal s (packet room j m) ≡ o → (b : Bool) → kind_on j s ≡ b → (c : Bool) → crc_right m ≡ c
        → Stands s (result_of o s (packet room j m)).state
    go (some n) taken b on c right = (refl, refl)
    go none taken false on c right = rw on (refl, refl)
    go none taken true on false right = rw (on, right) (refl, refl)
    go none taken true on true right =
        let it : HeardRight s room j m = record { taken = taken; on = on; right = right } in
        let n = noted_stands s j m (not_true (awaited j m s) (λ e. other (awaits_no_other s k r j m room it e))) in
        let l = accepts_leaves j m s in
        rw (on, right) (l.request ∙ n.0, ap (has I_TXSENT) l.a ∙ n.1)

pub reset_answered : ResetAnswered
reset_answered =
    record {
      ends = λ s room k j m r a. let t = awaited_ends s room j m a.right (awaits_it s k r j m room a) in (t.0, t.1.0, t.1.1);
      stands = stands_of;
      off = off_of;
    }
