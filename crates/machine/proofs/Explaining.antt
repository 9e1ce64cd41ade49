-- Why no reply leaves: the reason named is the first that is true, and a reply leaves exactly where none is.
-- Assumes nothing.
use mathlib.Core.Path.{◌≡◌, refl, sym, ap, ◌∙◌}
use mathlib.Core.Bool.{Bool, true, false, not, cond, ◌&&◌, ◌||◌, true≢false}
use mathlib.Core.List.{List, [], ◌∷◌, ◌++◌}
use mathlib.Core.Logic.{◌↔◌, ◌⊎◌, inl, inr, ⊎_elim}
use mathlib.Core.Option.{Option, none, some}
use Prim.Native.Nat.{ℕ, zero, suc, ◌+◌, ◌*◌, ◌-◌, ◌%◌, ◌^◌, ◌<◌, ◌≤◌}
use native.Mathlib.Nat.{zero-mul, mod-lt}
use native.Mathlib.Omega.{arith}
use borrow.Author.Tests.{lt-ltb, ltb-true, le-ltb, ltb-false, leb-true, leb-false, eqb-true, eq-eqb, ne_eqb}
use lib.Bits.{and_high, and_mask, and_zero_r}
use lib.Dec.{ltb, leb, eqb, lit<}
use lib.ListN.{length, get_or, replicate}
use Rattle.line.specs.Kind.{sop_kinds}
use Rattle.line.specs.Frame.{Octets, Frame}
use Rattle.line.specs.Crc.{with_crc, crc_right}
use Rattle.line.specs.Write.{frame_room}
use Rattle.line.proofs.Crcs.{payload, octets_crc, crc_right_lem, crc_there, crc_few}
use Rattle.machine.specs.Registers.{switches1, control0, control1, has, AUTO_CRC, AUTO_PRE}
use Rattle.machine.specs.State.{State, power_up, reg}
use Rattle.machine.specs.Status.{rx_room}
use Rattle.machine.specs.Headers.{GoodCRC, Soft_Reset, two_octets, control, message_id, is_control}
use Rattle.machine.specs.Requests.{Effect, driver_on, acknowledged}
use Rattle.machine.specs.Packets.{enables, kind_on, fits_rx, awaited, replies_to, only_if, checks, soft_reset_heard, noted, stores, accepts, hears}
use Rattle.machine.specs.Events.{Event, packet, Fits, no}
use Rattle.machine.specs.Refusals.{no11, no9, refusal}
use Rattle.machine.specs.Step.{accepted, reply_to, result_of, step, after}
use Rattle.machine.specs.Why.{Reason, refused, kind_off, crc_wrong, no_room, is_good_crc, auto_crc_off, auto_pre_on, driver_off, Cause, causes, first_cause, why}
use Rattle.machine.specs.Bench.{w, p, name, fifth, answer}
use Rattle.machine.specs.Theorems.{AllFit, bit, Enabled, Says, NoneTrue, FirstTrue, NamedExactly, GoodCrcFor, LeavesExactly, AnsweredAfter, EachReasonGiven}
use Rattle.machine.proofs.Refusing.{same_octets}
use Rattle.machine.proofs.Checking.{packet_checks}
use Rattle.machine.proofs.Staying.{control_whole}
use Rattle.machine.proofs.Heading.{control_type, control_objects, control_id}
use Rattle.machine.proofs.Computing.{computed}

-- ---- the first row that applies, where each row applies exactly when its reason is true

reasons_of : List Cause → List Reason
reasons_of [] = []
reasons_of (c ∷ cs) = c.reason ∷ reasons_of cs

abbrev Exact : (Reason → Type 0) → List Cause → Type 0
Exact says [] = Unit {0}
Exact says (c ∷ cs) = ((c.applies ≡ true) ↔ says c.reason) × Exact says cs

not_true : (b : Bool) → (b ≡ true → ⊥) → b ≡ false
not_true true h = absurd (h refl)
not_true false h = refl

module _ (says : Reason → Type 0) where
  abbrev Means : List Cause → Option Reason → Type 0
  Means cs none = NoneTrue says (reasons_of cs)
  Means cs (some r) = FirstTrue says r (reasons_of cs)

  later : (c : Cause) (cs : List Cause) (o : Option Reason) → (says c.reason → ⊥) → Means cs o → Means (c ∷ cs) o
  unfolding reasons_of
  later c cs none f m = (f, m)
  later c cs (some r) f m =
      record {
        before = c.reason ∷ m.before;
        behind = m.behind;
        is = ap (λ (l : List Reason). c.reason ∷ l) m.is;
        here = m.here;
        not_before = (f, m.not_before);
      }

  first_means : (cs : List Cause) → Exact says cs → Means cs (first_cause cs)
  unfolding first_cause reasons_of
  first_means [] x = tt
  first_means (c ∷ cs) x = go c.applies refl (first_means cs x.1)
    where
      go : (b : Bool) → c.applies ≡ b → Means cs (first_cause cs) → Means (c ∷ cs) (cond b (some c.reason) (first_cause cs))
      go true e m = record { before = []; behind = reasons_of cs; is = refl; here = x.0.0 e; not_before = tt }
      go false e m = later c cs (first_cause cs) (λ h. true≢false (sym (x.0.1 h) ∙ e)) m

  -- and back
  first_some : (cs : List Cause) → Exact says cs → (r : Reason) (before behind : List Reason)
      → reasons_of cs ≡ before ++ (r ∷ behind) → NoneTrue says before → says r → first_cause cs ≡ some r
  unfolding first_cause reasons_of
  first_some [] x r [] behind e n h = let z : ◌≡◌ {A = ℕ} 0 1 = cc in absurd (omega arith)
  first_some [] x r (b ∷ before) behind e n h = let z : ◌≡◌ {A = ℕ} 0 1 = cc in absurd (omega arith)
  first_some (c ∷ cs) x r [] behind e n h =
      let same : c.reason ≡ r = cc in
      rw (x.0.1 (rw same h), same) refl
  first_some (c ∷ cs) x r (b ∷ before) behind e n h =
      let same : c.reason ≡ b = cc in
      let rest : reasons_of cs ≡ before ++ (r ∷ behind) = cc in
      let off = not_true c.applies (λ a. n.0 (rw same at (x.0.0 a))) in
      rw off (first_some cs x.1 r before behind rest n.1 h)

  first_none : (cs : List Cause) → Exact says cs → NoneTrue says (reasons_of cs) → first_cause cs ≡ none
  unfolding first_cause reasons_of
  first_none [] x n = refl
  first_none (c ∷ cs) x n = rw (not_true c.applies (λ a. n.0 (x.0.0 a))) (first_none cs x.1 n.1)

-- ---- each row applies exactly when its reason is true

module _ {P : Type 0} (b : Bool) (is : (b ≡ true) ↔ P) where
  not_iff : (not b ≡ true) ↔ (P → ⊥)
  not_iff = go b is
    where
      go : (c : Bool) → (c ≡ true) ↔ P → (not c ≡ true) ↔ (P → ⊥)
      go true i = (λ e. absurd (true≢false (sym e)), λ f. absurd (f (i.0 refl)))
      go false i = (λ e p. true≢false (sym (i.1 p)), λ f. refl)

eqb_iff : (a b : ℕ) → (eqb a b ≡ true) ↔ (a ≡ b)
eqb_iff a b = (eqb-true a b, eq-eqb a b)

three_iff : {P Q R : Type 0} (a b c : Bool) → (a ≡ true) ↔ P → (b ≡ true) ↔ Q → (c ≡ true) ↔ R → ((a && (b && c)) ≡ true) ↔ (P × Q × R)
three_iff true true true p q r = (λ e. (p.0 refl, q.0 refl, r.0 refl), λ x. refl)
three_iff true true false p q r = (λ e. absurd (true≢false (sym e)), λ x. r.1 x.2)
three_iff true false c p q r = (λ e. absurd (true≢false (sym e)), λ x. q.1 x.1)
three_iff false b c p q r = (λ e. absurd (true≢false (sym e)), λ x. p.1 x.0)

-- a bit, by the mask of it alone
module _ (n x : ℕ) (some_bit : 0 < 2 ^ n) where
  has_bit : has (2 ^ (1 + n) - 2 ^ n) x ≡ eqb (bit n x) 1
  unfolding has
  has_bit = ap (λ (y : ℕ). not (eqb y 0)) (and_high x 1 n) ∙ go (bit n x) (2 ^ n) (mod-lt _ (lit< tt)) some_bit
    where
      go : (b p : ℕ) → b < 2 → 0 < p → not (eqb (b * p) 0) ≡ eqb b 1
      go zero p h q = rw (zero-mul p) refl
      go (suc zero) p h q = rw (ne_eqb (1 * p) 0 (λ e. omega arith)) refl
      go (suc (suc b)) p h q = absurd (omega arith)

  bit_on : (has (2 ^ (1 + n) - 2 ^ n) x ≡ true) ↔ (bit n x ≡ 1)
  bit_on = (λ e. eqb-true (bit n x) 1 (sym has_bit ∙ e), λ e. has_bit ∙ eq-eqb (bit n x) 1 e)

  bit_off : (not (has (2 ^ (1 + n) - 2 ^ n) x) ≡ true) ↔ (bit n x ≡ 0)
  bit_off =
      let off = not_iff (has (2 ^ (1 + n) - 2 ^ n) x) bit_on in
      let small : bit n x < 2 = mod-lt _ (lit< tt) in
      (λ e. one_less (bit n x) small (off.0 e), λ e. off.1 (λ o. omega arith))
    where
      one_less : (b : ℕ) → b < 2 → (b ≡ 1 → ⊥) → b ≡ 0
      one_less zero h f = refl
      one_less (suc zero) h f = absurd (f refl)
      one_less (suc (suc b)) h f = absurd (omega arith)

-- off unless exactly one of the two lowest bits is set
driver_iff : (x : ℕ) → (not (driver_on x) ≡ true) ↔ (bit 0 x ≡ bit 1 x)
unfolding driver_on
driver_iff x = rw (and_mask x 2) (go (bit 0 x) (bit 1 x) (x % 4) (mod-lt _ (lit< tt)) (mod-lt _ (lit< tt)) (omega arith))
  where
    go : (a b y : ℕ) → a < 2 → b < 2 → y ≡ a + 2 * b → (not (eqb y 1 || eqb y 2) ≡ true) ↔ (a ≡ b)
    go zero zero y h i e = rw e (λ z. refl, λ q. refl)
    go (suc zero) zero y h i e = rw e (λ z. absurd (true≢false (sym z)), λ q. absurd (omega arith))
    go zero (suc zero) y h i e = rw e (λ z. absurd (true≢false (sym z)), λ q. absurd (omega arith))
    go (suc zero) (suc zero) y h i e = rw e (λ z. refl, λ q. refl)
    go (suc (suc a)) b y h i e = absurd (omega arith)
    go zero (suc (suc b)) y h i e = absurd (omega arith)
    go (suc zero) (suc (suc b)) y h i e = absurd (omega arith)

enabling : (c k n : ℕ) → 1 ≤ k → k ≤ 4 → get_or (0 ∷ 1 ∷ 5 ∷ 6 ∷ []) (k - 1) 0 ≡ n → (b : Bool) → (b ≡ true) ↔ (bit n c ≡ 1)
    → (b ≡ true) ↔ Enabled c k
enabling c k n lo hi at b is =
    (λ e. inr (lo, hi, rw at (is.0 e)), ⊎_elim (λ z. absurd (omega arith)) (λ z. is.1 (rw at at z.2)))

enabled_iff : (c k : ℕ) → (cond (eqb k 0) true (has (enables k) c) ≡ true) ↔ Enabled c k
unfolding has
enabled_iff c zero = (λ e. inl refl, λ e. refl)
enabled_iff c (suc zero) = enabling c 1 0 (omega arith) (omega arith) refl _ (bit_on 0 c (lit< tt))
enabled_iff c (suc (suc zero)) = enabling c 2 1 (omega arith) (omega arith) refl _ (bit_on 1 c (lit< tt))
enabled_iff c (suc (suc (suc zero))) = enabling c 3 5 (omega arith) (omega arith) refl _ (bit_on 5 c (lit< tt))
enabled_iff c (suc (suc (suc (suc zero)))) = enabling c 4 6 (omega arith) (omega arith) refl _ (bit_on 6 c (lit< tt))
enabled_iff c (suc (suc (suc (suc (suc k))))) =
    let off : cond (eqb (suc (suc (suc (suc (suc k))))) 0) true (has 0 c) ≡ false =
    rw (ne_eqb (suc (suc (suc (suc (suc k))))) 0 (λ e. omega arith)) (ap (λ (y : ℕ). not (eqb y 0)) (and_zero_r c)) in
    (λ e. absurd (true≢false (sym e ∙ off)), ⊎_elim (λ z. absurd (omega arith)) (λ z. absurd (omega (arith, z.1))))

room_iff : (n : ℕ) → (not (leb n rx_room) ≡ true) ↔ (80 < n)
room_iff n = go (leb n rx_room) refl
  where
    go : (b : Bool) → leb n rx_room ≡ b → (not b ≡ true) ↔ (80 < n)
    go true e = (λ z. absurd (true≢false (sym z)), λ h. absurd (omega (arith, leb-true n rx_room e)))
    go false e = (λ z. leb-false n rx_room e, λ h. refl)

crc_iff : (m : List ℕ) → Octets m → (not (crc_right m) ≡ true) ↔ ((l : List ℕ) → m ≡ with_crc l → ⊥)
crc_iff m o = go (crc_right m) refl
  where
    long : (b : Bool) → leb 4 (length m) ≡ b → crc_right m ≡ true → 4 ≤ length m
    long true h e = leb-true 4 (length m) h
    long false h e = absurd (true≢false (sym e ∙ sym (crc_few m (leb-false 4 (length m) h))))

    go : (b : Bool) → crc_right m ≡ b → (not b ≡ true) ↔ ((l : List ℕ) → m ≡ with_crc l → ⊥)
    go true e = (λ z. absurd (true≢false (sym z)), λ f. absurd (f (payload m) (crc_there m o (long (leb 4 (length m)) refl e) e)))
    go false e = (λ z l q. true≢false (sym (ap crc_right q ∙ crc_right_lem l) ∙ e), λ f. refl)

ltb_iff : (a b : ℕ) → (ltb a b ≡ true) ↔ (a < b)
ltb_iff a b = (ltb-true a b, lt-ltb a b)

or_iff : {P Q : Type 0} (a b : Bool) → (a ≡ true) ↔ P → (b ≡ true) ↔ Q → ((a || b) ≡ true) ↔ (P ⊎ Q)
or_iff true b p q = (λ e. inl (p.0 refl), λ x. refl)
or_iff false true p q = (λ e. inr (q.0 refl), λ x. refl)
or_iff false false p q = (λ e. absurd (true≢false (sym e)), ⊎_elim p.1 q.1)

module _ (s : State) (k : ℕ) (m : List ℕ) where
  no11_iff : (no11 s (packet frame_room k m) ≡ true) ↔ Says s k m (refused 11)
  unfolding no11
  no11_iff =
      let is = ltb_iff 4 k in
      (λ e. inl (refl, is.0 e), ⊎_elim (λ z. is.1 z.1) (λ z. absurd (omega (arith, z.0))))

  no9_iff : (no9 s (packet frame_room k m) ≡ true) ↔ Says s k m (refused 9)
  unfolding no9
  no9_iff =
      let is = or_iff (ltb (length m) 6) (ltb 34 (length m)) (ltb_iff (length m) 6) (ltb_iff 34 (length m)) in
      (λ e. inr (refl, is.0 e), ⊎_elim (λ z. absurd (omega (arith, z.0))) (λ z. is.1 z.1))

  exact : Octets m → Exact (Says s k m) (causes s k m)
  unfolding kind_on is_control
  exact o = (no11_iff, (no9_iff, (kind_iff, (crc_iff m o, (room, (good_crc_iff, (auto_crc, (auto_pre, (driver, tt)))))))))
    where
      kind_iff : (not (kind_on k s) ≡ true) ↔ Says s k m kind_off
      kind_iff = not_iff (kind_on k s) (enabled_iff (reg control1 s) k)

      room : (not (fits_rx m s) ≡ true) ↔ Says s k m no_room
      room = let r = room_iff (length s.rx + suc (length m)) in (λ e. omega (arith, r.0 e), λ h. r.1 (omega (arith, h)))

      good_crc_iff : (is_control GoodCRC m ≡ true) ↔ Says s k m is_good_crc
      good_crc_iff = three_iff _ _ _ (eqb_iff _ _) (eqb_iff _ _) (eqb_iff _ _)

      auto_crc : (not (has AUTO_CRC (reg switches1 s)) ≡ true) ↔ Says s k m auto_crc_off
      auto_crc = bit_off 2 (reg switches1 s) (lit< tt)

      auto_pre : (has AUTO_PRE (reg control0 s) ≡ true) ↔ Says s k m auto_pre_on
      auto_pre = bit_on 1 (reg control0 s) (lit< tt)

      driver : (not (driver_on (reg switches1 s)) ≡ true) ↔ Says s k m driver_off
      driver = driver_iff (reg switches1 s)

  means : Octets m → Means (Says s k m) (causes s k m) (why s k m)
  unfolding why
  means o = first_means (Says s k m) (causes s k m) (exact o)

-- ---- 11. Named exactly

pub named_exactly : NamedExactly
unfolding why reasons_of
named_exactly =
    record {
      reason =
          λ s k m r o. (
            λ e. rw e at (means s k m o),
            λ f. first_some (Says s k m) (causes s k m) (exact s k m o) r f.before f.behind f.is f.not_before f.here,
          );
      no_reason = λ s k m o. (λ e. rw e at (means s k m o), λ n. first_none (Says s k m) (causes s k m) (exact s k m o) n);
    }

-- ---- what leaves at a packet

frames_cond : (b : Bool) (x y : Effect) → (cond b x y).frames ≡ cond b x.frames y.frames
frames_cond true x y = refl
frames_cond false x y = refl

-- what a right CRC brings about changes neither Rx nor a register
noted_same : (k : ℕ) (m : List ℕ) (s : State) → ((noted k m s).rx ≡ s.rx) × ((noted k m s).cells ≡ s.cells)
noted_same k m s = go (is_control Soft_Reset m) (awaited k m s)
  where
    go : (b c : Bool)
        → ((only_if b soft_reset_heard (only_if c acknowledged (checks s))).rx ≡ s.rx)
        × ((only_if b soft_reset_heard (only_if c acknowledged (checks s))).cells ≡ s.cells)
    go true true = (refl, refl)
    go true false = (refl, refl)
    go false true = (refl, refl)
    go false false = (refl, refl)

-- nothing, or the GoodCRC, by all the tests that a packet meets
unfoldable sent_by : (on right fits good auto pre driver : Bool) → List Frame → List Frame
sent_by on right fits good auto pre driver fs =
    cond on (cond right (cond fits (cond (not good && (auto && (not pre && driver))) fs []) []) []) []

abbrev reply : ℕ → List ℕ → State → Frame
reply k m s = control GoodCRC k (reg switches1 s) (message_id m)

module _ (k : ℕ) (m : List ℕ) where
  stores_frames : (s : State) → (stores k m s).frames ≡ cond (replies_to m s) (reply k m s ∷ []) []
  unfolding stores
  stores_frames s = frames_cond (replies_to m s) _ _

  accepts_frames : (s : State) → (accepts k m s).frames ≡ cond (fits_rx m s) (cond (replies_to m s) (reply k m s ∷ []) []) []
  unfolding accepts replies_to
  accepts_frames s =
      let t = noted_same k m s in
      frames_cond (fits_rx m (noted k m s)) _ _
      ∙ ap (λ (fs : List Frame). cond (fits_rx m (noted k m s)) fs []) (stores_frames (noted k m s))
      ∙ rw (t.0, t.1) refl

  hears_frames : (s : State)
      → (hears k m s).frames
      ≡ sent_by (kind_on k s) (crc_right m) (fits_rx m s) (is_control GoodCRC m) (has AUTO_CRC (reg switches1 s)) (has AUTO_PRE (reg control0 s))
      (driver_on (reg switches1 s)) (reply k m s ∷ [])
  unfolding hears replies_to sent_by
  hears_frames s =
      frames_cond (kind_on k s) _ _
      ∙ ap (λ (fs : List Frame). cond (kind_on k s) fs [])
      (frames_cond (crc_right m) _ _ ∙ ap (λ (fs : List Frame). cond (crc_right m) fs []) (accepts_frames s))

-- ---- what is named, by the same tests

-- of a packet that is not refused
unfoldable named_by : (on right fits good auto pre driver : Bool) → Option Reason
named_by on right fits good auto pre driver =
    cond (not on) (some kind_off)
    (cond (not right) (some crc_wrong)
    (cond (not fits) (some no_room)
    (cond good (some is_good_crc)
    (cond (not auto) (some auto_crc_off)
    (cond pre (some auto_pre_on)
    (cond (not driver) (some driver_off) none))))))

abbrev sent_for : Option Reason → List Frame → List Frame
sent_for none fs = fs
sent_for (some r) fs = []

heard_sent : (on right fits good auto pre driver : Bool) (fs : List Frame)
    → sent_by on right fits good auto pre driver fs ≡ sent_for (named_by on right fits good auto pre driver) fs
unfolding sent_by named_by
heard_sent false right fits good auto pre driver fs = refl
heard_sent true false fits good auto pre driver fs = refl
heard_sent true true false good auto pre driver fs = refl
heard_sent true true true true auto pre driver fs = refl
heard_sent true true true false false pre driver fs = refl
heard_sent true true true false true true driver fs = refl
heard_sent true true true false true false false fs = refl
heard_sent true true true false true false true fs = refl

heard_taken : (on right fits good auto pre driver : Bool) (n : ℕ) → named_by on right fits good auto pre driver ≡ some (refused n) → ⊥
unfolding named_by
heard_taken false right fits good auto pre driver n e = let z : ◌≡◌ {A = ℕ} 0 1 = cc in omega arith
heard_taken true false fits good auto pre driver n e = let z : ◌≡◌ {A = ℕ} 0 1 = cc in omega arith
heard_taken true true false good auto pre driver n e = let z : ◌≡◌ {A = ℕ} 0 1 = cc in omega arith
heard_taken true true true true auto pre driver n e = let z : ◌≡◌ {A = ℕ} 0 1 = cc in omega arith
heard_taken true true true false false pre driver n e = let z : ◌≡◌ {A = ℕ} 0 1 = cc in omega arith
heard_taken true true true false true true driver n e = let z : ◌≡◌ {A = ℕ} 0 1 = cc in omega arith
heard_taken true true true false true false false n e = let z : ◌≡◌ {A = ℕ} 0 1 = cc in omega arith
heard_taken true true true false true false true n e = let z : ◌≡◌ {A = ℕ} 0 1 = cc in omega arith

module _ (s : State) (room k : ℕ) (m : List ℕ) where
  abbrev event : Event
  event = packet room k m

  abbrev kind_no : Bool
  kind_no = ltb 4 k

  abbrev length_no : Bool
  length_no = ltb (length m) 6 || ltb 34 (length m)

  abbrev named : Option Reason
  named =
      named_by (kind_on k s) (crc_right m) (fits_rx m s) (is_control GoodCRC m) (has AUTO_CRC (reg switches1 s)) (has AUTO_PRE (reg control0 s))
      (driver_on (reg switches1 s))

  why_is : why s k m ≡ cond kind_no (some (refused 11)) (cond length_no (some (refused 9)) named)
  unfolding why first_cause no11 no9 named_by
  why_is = refl

  module _ (lent : frame_room ≤ room) where
    checks_are : refusal s event ≡ cond kind_no (some 11) (cond length_no (some 9) none)
    checks_are = packet_checks s room k m ∙ simp (le-ltb room frame_room lent)

    -- frames and reply go by the tests
    frames_are : (b c : Bool) → kind_no ≡ b → length_no ≡ c
        → (step s event).frames ≡ sent_for (cond b (some (refused 11)) (cond c (some (refused 9)) named)) (reply k m s ∷ [])
    unfolding step result_of accepted
    frames_are true c e f = rw (checks_are, e) refl
    frames_are false true e f = rw (checks_are, e, f) refl
    frames_are false false e f = rw (checks_are, e, f) (hears_frames k m s ∙ heard_sent _ _ _ _ _ _ _ (reply k m s ∷ []))

    sent_is : (step s event).frames ≡ sent_for (why s k m) (reply k m s ∷ [])
    sent_is = frames_are kind_no length_no refl refl ∙ ap (λ (o : Option Reason). sent_for o (reply k m s ∷ [])) (sym why_is)

    no_is : (n : ℕ) (b c : Bool) → kind_no ≡ b → length_no ≡ c
        → (cond b (some (refused 11)) (cond c (some (refused 9)) named) ≡ some (refused n)) ↔ ((step s event).reply ≡ no n)
    unfolding step result_of reply_to
    no_is n true c e f = rw (checks_are, e) (λ q. cc, λ q. cc)
    no_is n false true e f = rw (checks_are, e, f) (λ q. cc, λ q. cc)
    no_is n false false e f =
        rw (checks_are, e, f)
        (λ q. absurd (heard_taken _ _ _ _ _ _ _ n q), λ q. let z : ◌≡◌ {A = ℕ} 0 1 = cc in absurd (omega arith))

-- ---- 11. Leaves exactly

the_reply : (s : State) (k : ℕ) (m : List ℕ) → k < sop_kinds → GoodCrcFor k m (reply k m s ∷ [])
unfolding two_octets
the_reply s k m h =
    let sw = reg switches1 s in
    let id = message_id m in
    let few : id < 8 = mod-lt _ (lit< tt) in
    record {
      frame = reply k m s;
      alone = refl;
      whole = control_whole GoodCRC k sw id h;
      kind = refl;
      good_crc = (control_type GoodCRC k sw id (omega arith) few, control_objects GoodCRC k sw id (omega arith) few, refl);
      id = control_id GoodCRC k sw id (omega arith) few;
    }

-- where a reply is there, something left
sent_none : (o : Option Reason) (k : ℕ) (m : List ℕ) (fs : List Frame) → GoodCrcFor k m (sent_for o fs) → o ≡ none
sent_none none k m fs g = refl
sent_none (some r) k m fs g = let alone = g.alone in let z : ◌≡◌ {A = ℕ} 0 1 = cc in absurd (omega arith)

-- a kind above 4 is refused
is_sop : (s : State) (k : ℕ) (m : List ℕ) → why s k m ≡ none → k < sop_kinds
is_sop s k m e = go (ltb 4 k) refl (sym (why_is s frame_room k m) ∙ e)
  where
    go : (b : Bool) → ltb 4 k ≡ b
        → cond b (some (refused 11)) (cond (length_no s frame_room k m) (some (refused 9)) (named s frame_room k m)) ≡ none → k < sop_kinds
    go true h q = let z : ◌≡◌ {A = ℕ} 0 1 = cc in absurd (omega arith)
    go false h q = omega (arith, ltb-false 4 k h)

module _ (s : State) (room k : ℕ) (m : List ℕ) where
  leaves : frame_room ≤ room → (why s k m ≡ none) ↔ GoodCrcFor k m (step s (packet room k m)).frames
  leaves h =
      let sent = sent_is s room k m h in
      (λ e. rw (sent, e) (the_reply s k m (is_sop s k m e)), λ g. sent_none (why s k m) k m (reply k m s ∷ []) (rw sent at g))

  stays : (r : Reason) → why s k m ≡ some r → (step s (packet room k m)).frames ≡ []
  unfolding step result_of
  stays r e = go (ltb room frame_room) refl
    where
      go : (b : Bool) → ltb room frame_room ≡ b → (step s (packet room k m)).frames ≡ []
      go true small = rw (packet_checks s room k m, small) refl
      go false large = sent_is s room k m (ltb-false room frame_room large) ∙ rw e refl

pub leaves_exactly : LeavesExactly
leaves_exactly =
    record {
      leaves = leaves;
      stays = stays;
      refuses = λ s room k m n h. rw (why_is s room k m) (no_is s room k m h n _ _ refl refl);
    }

-- ---- 11. Each reason is given

longest : Event
longest = p 0 (replicate 30 0)

longest_fits : Fits longest
unfolding longest
longest_fits = (omega arith, octets_crc (replicate 30 0) (same_octets 30 0 (omega arith)))

told : {o : Option Reason} (history : List Event) (k : ℕ) (m : List ℕ) → AllFit history → Octets m → why (after power_up history) k m ≡ o
    → AnsweredAfter o
told history k m h o e = record { history = history; kind = k; octets = m; fits = (h, o); is = e }

pub each_reason_given : EachReasonGiven
unfolding computed why first_cause longest
each_reason_given =
    record {
      refused_11 = told [] 5 [] tt tt refl;
      refused_9 = told [] 0 [] tt tt refl;
      kind_off = told [] 1 (with_crc fifth) tt (omega arith) refl;
      crc_wrong = told [] 0 (replicate 6 0) tt (omega arith) refl;
      no_room = told (longest ∷ longest ∷ []) 0 (with_crc name) (longest_fits, (longest_fits, tt)) (octets_crc name (omega arith)) refl;
      is_good_crc = told [] 0 (with_crc answer) tt (omega arith) refl;
      auto_crc_off = told [] 0 (with_crc fifth) tt (omega arith) refl;
      auto_pre_on = told (w 0x03 0x25 ∷ w 0x06 0x26 ∷ []) 0 (with_crc fifth) (omega arith) (omega arith) refl;
      driver_off = told (w 0x03 0x24 ∷ []) 0 (with_crc fifth) (omega arith) (omega arith) refl;
      leaves = told (w 0x03 0x25 ∷ []) 0 (with_crc fifth) (omega arith) (omega arith) refl;
    }
