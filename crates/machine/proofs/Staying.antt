-- Every fitting event keeps a good state good, and sends whole frames, one at most.
-- Assumes nothing.
use mathlib.Core.Path.{◌≡◌, refl, sym, ap, ◌∙◌, subst}
use mathlib.Core.Bool.{Bool, true, false, not, cond, ◌&&◌, ◌||◌}
use mathlib.Core.List.{List, [], ◌∷◌, ◌++◌}
use mathlib.Core.Option.{Option, none, some}
use Prim.Native.Nat.{ℕ, zero, suc, ◌+◌, ◌-◌, ◌/◌, ◌<◌, ◌≤◌}
use native.Mathlib.Nat.{mod-lt}
use native.Mathlib.Omega.{arith}
use borrow.Author.Tests.{eqb-true, ltb-true, ltb-false, leb-true, leb-false}
use lib.Bits.{bit_and, mask_lt}
use lib.Dec.{ltb, leb, eqb, lit<}
use lib.ListN.{length, drop, length-append, length-drop}
use Rattle.line.specs.Kind.{sop_kinds}
use Rattle.line.specs.Frame.{Frame, Octets, Whole, message, alone, AllWhole}
use Rattle.line.specs.Crc.{crc_right}
use Rattle.line.specs.Refusal.{first_no}
use Rattle.line.proofs.Crcs.{octets_append, octets_drop}
use Rattle.machine.specs.Registers.{
  stored_bits,
  cell,
  switches1,
  control0,
  control1,
  control3,
  reset,
  fifos,
  has,
  stored,
  AUTO_RETRY,
  TX_FLUSH,
  TX_START,
  RX_FLUSH,
  SEND_HARD_RESET,
  PD_RESET,
  SW_RES,
}
use Rattle.machine.specs.State.{Phase, soft_reset, Request, Pins, State, power_up, reg, cleared, with_cells, with_tx, with_rx, with_ints, with_pins, raises}
use Rattle.machine.specs.Pins.{readings}
use Rattle.machine.specs.Status.{
  tx_room,
  rx_room,
  tx_full,
  rx_full,
  reports,
  cleared_at,
  SOFTFAIL,
  RETRYFAIL,
  SOFTRST,
  HARDRST,
  I_SOFTFAIL,
  I_RETRYFAIL,
  I_HARDSENT,
  I_TXSENT,
  I_SOFTRST,
  I_HARDRST,
  I_GCRCSENT,
  I_CRC_CHK,
  I_ALERT,
}
use Rattle.machine.specs.Queue.{START, inside, is_token, spelt, is_some, is_message}
use Rattle.machine.specs.Headers.{GoodCRC, Soft_Reset, control, two_octets, message_id, is_control}
use Rattle.machine.specs.Requests.{
  Effect,
  silent,
  sends,
  sends_if,
  wait,
  over,
  flight_in,
  flight,
  soft_reset_of,
  retries_of,
  latched,
  fail_bits,
  start,
  send_hard_reset,
  hard_reset_frame,
  hard_reset_heard,
  goes_on,
  soft_reset_follows,
  message_fails,
  soft_fails,
  fails,
  expires,
  elapses,
  passes,
  acknowledged,
}
use Rattle.machine.specs.Packets.{kind_on, fits_rx, replies_to, rx_token, only_if, awaited, soft_reset_heard, noted, keeps, stores, accepts, hears}
use Rattle.machine.specs.Events.{Event, write, read, pass, hard_reset, packet, sense, Fits}
use Rattle.machine.specs.Refusals.{
  tx_start,
  port_start,
  starts,
  to_be_stored,
  queue_at,
  no3,
  no4,
  no5,
  no6,
  no10,
  no11,
  table,
  refusal,
}
use Rattle.machine.specs.Step.{
  restored,
  pd_reset,
  queues,
  control0_written,
  control1_written,
  control3_written,
  reset_written,
  port_written,
  commands,
  writes,
  sw_reset,
  written,
  senses,
  after_read,
  accepted,
  step,
  result_of,
  after,
}
use Rattle.machine.specs.Good.{PhaseGood, RequestGood, OpenGood, Good}
use Rattle.machine.specs.Theorems.{pin_interrupts, AllFit, NoneApplies, StaysGood, AlwaysGood, OneFrame, WholeFrames}
use Rattle.machine.proofs.Masks.{within_le, within_wider, cells_at}
use Rattle.machine.proofs.Comparing.{changes_within}
use Rattle.machine.proofs.Refusing.{first_none_exactly}
use Rattle.machine.proofs.Spelling.{spelt_exactly, spelt_whole}
use Rattle.machine.proofs.Keeping.{
  power_up_good,
  keeps_cells,
  keeps_queue,
  keeps_rx,
  keeps_status,
  keeps_over,
  keeps_request,
  keeps_shows,
  keeps_hides,
  keeps_crc_chk,
  keeps_kind,
  keeps_raises_a,
  keeps_raises_b,
  keeps_raises,
  keeps_cleared,
  keeps_pins,
  keeps_when,
}

-- ---- what is to be shown of each effect

pub record Fine (e : Effect) : Type 0 where
  pub good : Good e.state
  pub whole : AllWhole e.frames
  pub few : length e.frames ≤ 1

quiet : (s : State) → Good s → Fine (silent s)
quiet s g = record { good = g; whole = tt; few = omega arith }

sent : (f : Frame) (s : State) → Whole f → Good s → Fine (sends f s)
sent f s w g = record { good = g; whole = (w, tt); few = omega arith }

sent_if : (o : Option Frame) (s : State) → ((f : Frame) → o ≡ some f → Whole f) → Good s → Fine (sends_if o s)
sent_if none s w g = quiet s g
sent_if (some f) s w g = sent f s (w f refl) g

by_test : (b : Bool) (x y : Effect) → (b ≡ true → Fine x) → (b ≡ false → Fine y) → Fine (cond b x y)
by_test true x y p q = p refl
by_test false x y p q = q refl

-- ---- frames that the device builds

pub control_whole : (type k sw id : ℕ) → k < sop_kinds → Whole (control type k sw id)
unfolding two_octets
control_whole type k sw id h = message h (mod-lt _ (lit< tt), (mod-lt _ (lit< tt), tt)) (omega arith) (omega arith)

pub reset_whole : Whole hard_reset_frame
reset_whole = alone (omega arith) (omega arith) refl

-- ---- start

a_message : (q : List ℕ) → is_message q ≡ true → (f : Frame) × (spelt q ≡ some f)
a_message q h = go (spelt q) refl h
  where
    go : (o : Option Frame) → spelt q ≡ o → is_some o ≡ true → (f : Frame) × (spelt q ≡ some f)
    go none e p = let z : ◌≡◌ {A = ℕ} 0 1 = cc in absurd (omega arith)
    go (some f) e p = (f, e)

few_retries : (c3 : ℕ) → retries_of c3 ≤ 3
unfolding retries_of
few_retries c3 = go (has AUTO_RETRY c3)
  where
    go : (b : Bool) → cond b (bit_and (c3 / 2) 3) 0 ≤ 3
    go true = omega (arith, mask_lt (c3 / 2) 2)
    go false = omega arith

start_fine : (s : State) → Good s → is_message s.tx ≡ true → Fine (start s)
unfolding start latched cell
start_fine s g h =
    sent_if (spelt s.tx) _ (λ f e. spelt_whole s.tx f g.tx e)
    (keeps_request _ (keeps_hides s g fail_bits) (latched s)
    (record {
      octet = omega (arith, within_le 0xF7 (reg switches1 s) (cells_at stored_bits s.cells 1 g.cells));
      few = few_retries (reg control3 s);
      sent = omega arith;
      waited = omega arith;
      phase = a_message s.tx h;
    }))

-- ---- time

flight_whole : (p : Phase) (q : Request) (tx : List ℕ) → Octets tx → PhaseGood p tx → (f : Frame) → flight_in p q tx ≡ some f → Whole f
unfolding flight_in
flight_whole Phase.message q tx o g f e = spelt_whole tx f o e
flight_whole (soft_reset k) q tx o g f e =
    let same : soft_reset_of k q ≡ f = cc in subst Whole same (control_whole _ k q.switches1 0 g.0)

module _ (s : State) (g : Good s) (q : Request) (r : RequestGood q s.tx) where
  resets_fine : (w : ℕ) → w < wait → (o : Option Frame) → spelt s.tx ≡ o → (t : State) → t.tx ≡ [] → Good t → Fine (soft_reset_follows w q o t)
  resets_fine w h none is t empty good = quiet t good
  resets_fine w h (some f) is t empty good =
      let kind = ((spelt_exactly s.tx f).0 is).sop in
      sent _ _ (control_whole _ _ q.switches1 0 (omega (arith, kind)))
      (keeps_request t good _
      (record { octet = r.octet; few = r.few; sent = omega arith; waited = h; phase = (omega (arith, kind), empty) }))

  fails_fine : (p : Phase) (w : ℕ) → w < wait → Fine (fails p w q s)
  unfolding fails message_fails soft_fails
  fails_fine Phase.message w h =
      let t = keeps_raises_a _ (keeps_shows _ (keeps_over s g) RETRYFAIL refl) I_RETRYFAIL refl in
      by_test q.soft _ _ (λ e. resets_fine w h (spelt s.tx) refl _ refl t) (λ e. quiet _ t)
  fails_fine (soft_reset k) w h =
      let t = keeps_raises_a _ (keeps_shows _ (keeps_over s g) SOFTFAIL refl) I_SOFTFAIL refl in
      by_test q.hard _ _ (λ e. sent hard_reset_frame _ reset_whole (keeps_raises_a _ t I_HARDSENT refl)) (λ e. quiet _ t)

  expires_fine : (w : ℕ) → w < wait → Fine (expires w q s)
  unfolding expires
  expires_fine w h =
      by_test (ltb q.sent q.retries) _ _
      (λ e. sent_if (flight s q) _ (flight_whole q.phase q s.tx g.tx r.phase)
      (keeps_request s g (goes_on q.phase (suc q.sent) w q)
      (record { octet = r.octet; few = r.few; sent = ltb-true q.sent q.retries e; waited = h; phase = r.phase })))
      (λ e. fails_fine q.phase w h)

  elapses_fine : (w : ℕ) → w < wait + wait → Fine (elapses w q s)
  unfolding elapses
  elapses_fine w h =
      by_test (ltb w wait) _ _
      (λ e. quiet _
      (keeps_request s g (goes_on q.phase q.sent w q)
      (record { octet = r.octet; few = r.few; sent = r.sent; waited = ltb-true w wait e; phase = r.phase })))
      (λ e. let z = ltb-false w wait e in expires_fine (w - wait) (omega arith))

passes_fine : (s : State) → Good s → (n : ℕ) → n ≤ 1000 → (o : Option Request) → OpenGood o s.tx → Fine (passes n o s)
unfolding passes
passes_fine s g n h none r = quiet s g
passes_fine s g n h (some q) r = let w = r.waited in elapses_fine s g q r (q.waited + n) (omega arith)

-- ---- packets

token_octet : (k : ℕ) → rx_token k < 256
token_octet zero = omega arith
token_octet (suc zero) = omega arith
token_octet (suc (suc zero)) = omega arith
token_octet (suc (suc (suc zero))) = omega arith
token_octet (suc (suc (suc (suc zero)))) = omega arith
token_octet (suc (suc (suc (suc (suc k))))) = omega arith

module _ (k : ℕ) (m : List ℕ) (kind : k < sop_kinds) (octets : Octets m) where
  kept : (s : State) → Good s → fits_rx m s ≡ true → Good (keeps k m s)
  unfolding keeps
  kept s g h =
      let q = s.rx ++ (rx_token k ∷ m) in
      let n : length q ≤ rx_room = omega (arith, length-append s.rx (rx_token k ∷ m), leb-true (length s.rx + suc (length m)) rx_room h) in
      let t = keeps_kind _ (keeps_rx s g q (octets_append s.rx (rx_token k ∷ m) g.rx (token_octet k, octets)) n) k kind in
      keeps_when _ t (rx_full (with_rx q s)) (raises I_ALERT) (keeps_raises _ t I_ALERT refl)

  stores_fine : (s : State) → Good s → fits_rx m s ≡ true → Fine (stores k m s)
  unfolding stores
  stores_fine s g h =
      let t = kept s g h in
      by_test (replies_to m s) _ _
      (λ e. sent _ _ (control_whole GoodCRC k (reg switches1 s) (message_id m) kind) (keeps_raises_b _ t I_GCRCSENT refl))
      (λ e. quiet _ t)

  accepts_fine : (s : State) → Good s → Fine (accepts k m s)
  unfolding accepts
  accepts_fine s g =
      let a = keeps_raises _ (keeps_crc_chk s g true) I_CRC_CHK refl in
      let b = keeps_when _ a (awaited k m s) acknowledged (keeps_raises_a _ (keeps_over _ a) I_TXSENT refl) in
      let c = keeps_when _ b (is_control Soft_Reset m) soft_reset_heard (keeps_raises_a _ (keeps_shows _ b SOFTRST refl) I_SOFTRST refl) in
      by_test (fits_rx m (noted k m s)) _ _ (λ e. stores_fine (noted k m s) c e) (λ e. quiet _ (keeps_raises _ c I_ALERT refl))

  hears_fine : (s : State) → Good s → Fine (hears k m s)
  unfolding hears
  hears_fine s g =
      by_test (kind_on k s) _ _
      (λ e. by_test (crc_right m) _ _ (λ e. accepts_fine s g) (λ e. quiet _ (keeps_crc_chk s g false)))
      (λ e. quiet s g)

-- ---- writes

not_false : (b : Bool) → not b ≡ false → b ≡ true
not_false true e = refl
not_false false e = let z : ◌≡◌ {A = ℕ} 0 1 = cc in absurd (omega arith)

-- the octet at the port is a start that finds a message, or there is room for it
port_cases : (i t st m l : Bool) → (not i && not t) ≡ false → ((i || (t && not st)) && l) ≡ false → ((not i && st) && not m) ≡ false
    → (((not i && st) ≡ true) → m ≡ true) × (((not i && st) ≡ false) → l ≡ false)
port_cases true t st m l a b c = (λ e. let z : ◌≡◌ {A = ℕ} 0 1 = cc in absurd (omega arith), λ e. b)
port_cases false true true m l a b c = (λ e. not_false m c, λ e. let z : ◌≡◌ {A = ℕ} 0 1 = cc in absurd (omega arith))
port_cases false true false m l a b c = (λ e. let z : ◌≡◌ {A = ℕ} 0 1 = cc in absurd (omega arith), λ e. b)
port_cases false false st m l a b c = let z : ◌≡◌ {A = ℕ} 0 1 = cc in absurd (omega arith)

reports_good : (s t : State) → Good t → Good (reports s t)
reports_good s t g = keeps_raises t g _ (within_wider pin_interrupts 0xB9 _ (changes_within (readings s) (readings t)) refl)

no_request : (o : Option Request) (tx : List ℕ) → is_some o ≡ false → OpenGood o tx
no_request none tx e = tt
no_request (some q) tx e = let z : ◌≡◌ {A = ℕ} 0 1 = cc in absurd (omega arith)

module _ (s : State) (g : Good s) (room v : ℕ) (octet : v < 256) where
  port_fine : NoneApplies (table s (write room fifos v)) → Fine (port_written v s)
  unfolding port_written queues port_start starts tx_start to_be_stored queue_at no3 no4 no5 no6
  port_fine rows =
      let c =
      port_cases (inside s.tx) (is_token v) (eqb v START) (is_message s.tx) (leb tx_room (length s.tx))
      rows.1.1.1.1.0 rows.1.1.1.1.1.0 rows.1.1.1.1.1.1.0 in
      by_test (not (inside s.tx) && eqb v START) _ _ (λ e. start_fine s g (c.0 e))
      (λ e.
      let q = s.tx ++ (v ∷ []) in
      let n : length q ≤ tx_room = omega (arith, length-append s.tx (v ∷ []), leb-false tx_room (length s.tx) (c.1 e)) in
      let t = keeps_queue s g q s.request (octets_append s.tx (v ∷ []) g.tx (octet, tt)) n (no_request s.request q rows.1.1.1.0) in
      quiet _ (keeps_when _ t (tx_full (with_tx q s)) (raises I_ALERT) (keeps_raises _ t I_ALERT refl)))

  -- the state with the register stored
  module _ (a : ℕ) where
    kept_cells : Good (with_cells (stored a v s.cells) s)
    kept_cells = keeps_cells s g a v

  control0_fine : NoneApplies (table s (write room control0 v)) → Fine (control0_written v (with_cells (stored control0 v s.cells) s))
  unfolding control0_written starts tx_start port_start queue_at no4
  control0_fine rows =
      let t = kept_cells control0 in
      let u = keeps_when _ t (has TX_FLUSH v) over (keeps_over _ t) in
      by_test (has TX_START v) _ _
      (λ e. start_fine _ u (flushed (has TX_FLUSH v) (not_false _ (sym (ap (λ (b : Bool). (b || false) && not (is_message (queue_at s control0 v))) e) ∙ rows.1.1.1.1.1.1.0))))
      (λ e. quiet _ u)
    where
      flushed : (b : Bool) → is_message (cond b [] s.tx) ≡ true → is_message (only_if b over (with_cells (stored control0 v s.cells) s)).tx ≡ true
      flushed true h = h
      flushed false h = h

  commands_fine : (a : ℕ) → NoneApplies (table s (write room a v)) → Fine (commands a v (with_cells (stored a v s.cells) s))
  unfolding commands control1_written control3_written send_hard_reset reset_written restored pd_reset
  commands_fine a rows =
      let t = kept_cells a in
      by_test (eqb a control0) _ _
      (λ e. let is = eqb-true a control0 e in subst (λ (x : ℕ). Fine (control0_written v (with_cells (stored x v s.cells) s))) (sym is) (control0_fine (subst (λ (x : ℕ). NoneApplies (table s (write room x v))) is rows)))
      (λ e. by_test (eqb a control1) _ _
      (λ e. quiet _ (keeps_when _ t (has RX_FLUSH v) (with_rx []) (keeps_rx _ t [] tt (omega arith))))
      (λ e. by_test (eqb a control3) _ _
      (λ e. by_test (has SEND_HARD_RESET v) _ _
      (λ e. sent hard_reset_frame _ reset_whole (keeps_raises_a _ (keeps_hides _ (keeps_over _ t) fail_bits) I_HARDSENT refl))
      (λ e. quiet _ t))
      (λ e. by_test (eqb a reset) _ _
      (λ e. quiet _ (restarts (has SW_RES v) (keeps_when _ t (has PD_RESET v) pd_reset (keeps_rx _ (keeps_status _ (keeps_over _ t) cleared refl tt) [] tt (omega arith)))))
      (λ e. quiet _ t))))
    where
      restarts : (b : Bool) {u : State} → Good u → Good (cond b (with_pins s.pins power_up) u)
      restarts true h = keeps_pins power_up power_up_good s.pins g.pins
      restarts false h = h

  writes_fine : (a : ℕ) → NoneApplies (table s (write room a v)) → Fine (writes a v s)
  unfolding writes
  writes_fine a rows =
      by_test (eqb a fifos) _ _
      (λ e. port_fine (subst (λ (x : ℕ). NoneApplies (table s (write room x v))) (eqb-true a fifos e) rows))
      (λ e. commands_fine a rows)

  written_fine : (a : ℕ) → NoneApplies (table s (write room a v)) → Fine (written a v s)
  unfolding written
  written_fine a rows =
      let w = writes_fine a rows in
      record { good = go (sw_reset a v) w.good; whole = w.whole; few = w.few }
    where
      go : (b : Bool) {t : State} → Good t → Good (cond b t (reports s t))
      go true h = h
      go false {t} h = reports_good s t h

-- ---- events

reads_fine : (s : State) → Good s → (a : ℕ) → Good (after_read a s)
unfolding after_read
reads_fine s g a = go (eqb a fifos)
  where
    go : (b : Bool) → Good (cond b (with_rx (drop 1 s.rx) s) (with_ints (cleared_at a s.ints) s))
    go true = keeps_rx s g (drop 1 s.rx) (octets_drop 1 s.rx g.rx) (omega (arith, length-drop 1 s.rx, g.rx_few))
    go false = keeps_cleared s g a

accepted_fine : (s : State) (e : Event) → Good s → Fits e → NoneApplies (table s e) → Fine (accepted s e)
unfolding accepted hard_reset_heard senses no10 no11
accepted_fine s (write r a v) g f rows = written_fine s g r v f.1 a rows
accepted_fine s (read r a) g f rows = quiet _ (reads_fine s g a)
accepted_fine s (pass r n) g f rows =
    passes_fine s g n (ltb-false 1000 n rows.1.1.1.1.1.1.1.1.1.1.1.0) s.request g.request
accepted_fine s (hard_reset r) g f rows = quiet _ (keeps_raises_a _ (keeps_shows _ (keeps_over s g) HARDRST refl) I_HARDRST refl)
accepted_fine s (packet r k m) g f rows =
    hears_fine k m (let z = ltb-false 4 k rows.1.1.1.1.1.1.1.1.1.0 in omega arith) f.1 s g
accepted_fine s (sense r x y z) g f rows =
    let p : Pins = record { cc1 = x; cc2 = y; vbus = z } in
    quiet _ (reports_good s (with_pins p s) (keeps_pins s g p (record { cc1 = f.0; cc2 = f.1.0; vbus = f.1.1 })))

pub step_fine : (s : State) (e : Event) → Good s → Fits e → Fine (record { state = (step s e).state; frames = (step s e).frames })
unfolding step result_of refusal
step_fine s e g f = go (first_no (table s e)) refl
  where
    go : (o : Option ℕ) → first_no (table s e) ≡ o → Fine (record { state = (result_of o s e).state; frames = (result_of o s e).frames })
    go (some n) h = quiet s g
    go none h = accepted_fine s e g f ((first_none_exactly (table s e)).0 h)

-- ---- 1. Every state that events lead to is good

pub stays_good : StaysGood
stays_good s e g f = (step_fine s e g f).good

from_good : (s : State) → Good s → (es : List Event) → AllFit es → Good (after s es)
unfolding after
from_good s g [] f = g
from_good s g (e ∷ es) f = from_good (step s e).state (stays_good s e g f.0) es f.1

pub always_good : AlwaysGood
always_good = from_good power_up power_up_good

-- ---- 3. At most one frame leaves in an event, and it is whole

pub one_frame : OneFrame
one_frame s e g f = (step_fine s e g f).few

pub whole_frames : WholeFrames
whole_frames s e g f = (step_fine s e g f).whole
