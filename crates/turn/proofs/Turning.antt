-- A parsed line is the event that its text means; the device serves it, and what it prints is the machine's.
-- Assumes nothing.
use mathlib.Core.Path.{◌≡◌, refl, sym, ap, ap₂, ◌∙◌, subst}
use mathlib.Core.Bool.{Bool, true, false, not, cond, true≢false, ◌&&◌}
use mathlib.Core.List.{List, []}
use mathlib.Core.Option as math
use Prim.Native.Nat.{ℕ, ◌+◌, ◌≤◌}
use native.Mathlib.Omega.{arith}
use borrow.Author.Tests.{le-leb, leb-true}
use lib.Dec.{leb}
use lib.ListN.{length, take, drop, length-append}
use lib.Seq.{take_at, length-take-le}
use Rattle.std.specs.Prelude.{Option, None, Some}
use Rattle.std.proofs.lemmas.Option.{none-some, same_Some}
use Rattle.text.specs.Ascii.{text}
use Rattle.text.specs.Put.{has_room, Puts, Prints}
use Rattle.text.proofs.Texts.{nothing, few, octets_long, is_printed, ends_inside}
use Rattle.line.specs.Frame.{joined}
use Rattle.line.specs.Write.{frame_room}
use Rattle.machine.specs.Status.{int_low}
use Rattle.machine.specs.State.{State}
use Rattle.machine.specs.Events.{Event, write, read, pass, hard_reset, packet, sense, Reply, room}
use Rattle.machine.specs.Step.{step}
use Rattle.machine.specs.Why.{Reason, why}
use Rattle.fusb302.specs.declared.device.Device.{Device}
use Rattle.fusb302.specs.declared.device.Outcome.{Outcome}
use Rattle.fusb302.specs.declared.refusals.No.{No}
use Rattle.fusb302.specs.declared.why.Why.{Why}
use Rattle.fusb302.specs.View.{view, Asks}
use Rattle.fusb302.specs.Serves.{replied, overlaid, Serves}
use Rattle.fusb302.specs.Why.{reason_of}
use Rattle.fusb302.proofs.Serving.{served_symbols}
use Rattle.script.specs.declared.parse.Line.{Line}
use Rattle.script.specs.declared.parse.Line.TheVariants.{Write, Read, Time, HardReset, Packet, Sense}
use Rattle.script.specs.Text.{fits, octet_at, are_octets, octets_in}
use Rattle.script.specs.Parse.{count_of, write_event, timed, rest_part, number_part, heard, packet_of, millivolts_of, is_spaced, next_part, sensed, voltages_of, lettered_of, form_of, event_of, setup_of, line_of, Parses}
use Rattle.script.specs.Print.{outcome_text, bad_line_text, why_text, bench_line_room, PrintsOutcome, PrintsBad}
use Rattle.script.proofs.Texts.{short, reason_short}
use Rattle.turn.specs.Turn.{Telling, outcomes, reasons, Turned, meant_by, left_by, sent_by, result_text, reason_text_of, text_of, told_text, TakesLine, TakesLineTelling, Lent, event_for, TellsReason, TellsOutcome, ActsTelling}

-- ---- a line's event is lent room for one frame

abbrev Roomy : Option Event → Type 0
Roomy None = Unit {0}
Roomy (Some e) = room e ≡ frame_room

either : (b : Bool) (x y : Option Event) → Roomy x → Roomy y → Roomy (cond b x y)
either true x y p q = p
either false x y p q = q

timed_roomy : (o : Option ℕ) → Roomy (timed o)
timed_roomy None = tt
timed_roomy (Some n) = refl

heard_roomy : (o : Option ℕ) (b : Bool) (m : List ℕ) → Roomy (heard o b m)
heard_roomy None b m = tt
heard_roomy (Some k) true m = refl
heard_roomy (Some k) false m = tt

packet_roomy : (l : List ℕ) → Roomy (packet_of l)
unfolding packet_of
packet_roomy l = heard_roomy (count_of (number_part l)) (are_octets (rest_part l)) (octets_in (rest_part l))

sensed_roomy : (x y z : Option ℕ) → Roomy (sensed x y z)
sensed_roomy None y z = tt
sensed_roomy (Some x) None z = tt
sensed_roomy (Some x) (Some y) None = tt
sensed_roomy (Some x) (Some y) (Some z) = refl

voltages_roomy : (l : List ℕ) → Roomy (voltages_of l)
unfolding voltages_of
voltages_roomy l =
    either (is_spaced l && is_spaced (next_part l)) _ _
    (sensed_roomy (millivolts_of (number_part l)) (millivolts_of (number_part (next_part l))) (millivolts_of (next_part (next_part l)))) tt

form_roomy : (l : List ℕ) → Roomy (form_of l)
unfolding lettered_of form_of
form_roomy l =
    either (fits (text "w ## ##") l) _ _ refl
    (either (fits (text "r ##") l) _ _ refl
    (either (fits (text "h") l) _ _ refl
    (either (fits (text "t ") (take 2 l)) _ _ (timed_roomy (count_of (drop 2 l)))
    (either (fits (text "p ") (take 2 l)) _ _ (packet_roomy (drop 2 l))
    (either (fits (text "v ") (take 2 l)) _ _ (voltages_roomy (drop 2 l)) tt)))))

event_roomy : (l : List ℕ) → Roomy (event_of l)
unfolding event_of
event_roomy l = either (leb (length l) 255) _ _ (form_roomy l) tt

setup_roomy : (l : List ℕ) → Roomy (setup_of l)
unfolding setup_of
setup_roomy l = either (fits (text "## ##") l) _ _ refl tt

pub meant_roomy : (setup : Bool) (l : List ℕ) → Roomy (meant_by setup l)
meant_roomy setup l = either setup (setup_of l) (event_of l) (setup_roomy l) (event_roomy l)

-- ---- a parsed line and the octets beside it are the event

back : (e : Option Event) → Roomy e → (before : List ℕ) (l : Line) (after : List ℕ) → Parses e before (Some l) after → Some (event_for l after) ≡ e
back None roomy before l after p = absurd (none-some l (sym p.says))
back (Some (write n a v)) roomy before l after p = rw (same_Some l _ p.says, ← roomy) refl
back (Some (read n a)) roomy before l after p = rw (same_Some l _ p.says, ← roomy) refl
back (Some (pass n t)) roomy before l after p = rw (same_Some l _ p.says, ← roomy) refl
back (Some (hard_reset n)) roomy before l after p = rw (same_Some l _ p.says, ← roomy) refl
back (Some (packet n k m)) roomy before l after p =
    rw (same_Some l _ p.says, p.leaves)
    (ap₂ (λ (x : ℕ) (l : List ℕ). Some (packet x k l)) (sym roomy) (take_at m (drop (length m) before) (length m) refl))
back (Some (sense n x y z)) roomy before l after p = rw (same_Some l _ p.says, ← roomy) refl

pub parsed_event : (setup : Bool) (l before : List ℕ) (r : Line) (after : List ℕ) → Parses (meant_by setup l) before (Some r) after
    → Some (event_for r after) ≡ meant_by setup l
parsed_event setup l before r after p = back (meant_by setup l) (meant_roomy setup l) before r after p

-- a line out of form means none, and leaves the octets as they were
pub out_of_form : (e : Option Event) (before after : List ℕ) → Parses e before None after → (e ≡ None) × (after ≡ before)
out_of_form None before after p = (refl, p.leaves)
out_of_form (Some (write n a v)) before after p = absurd (none-some _ p.says)
out_of_form (Some (read n a)) before after p = absurd (none-some _ p.says)
out_of_form (Some (pass n t)) before after p = absurd (none-some _ p.says)
out_of_form (Some (hard_reset n)) before after p = absurd (none-some _ p.says)
out_of_form (Some (packet n k m)) before after p = absurd (none-some _ p.says)
out_of_form (Some (sense n x y z)) before after p = absurd (none-some _ p.says)

pub setup_parses : (l before : List ℕ) (r : Option Line) → r ≡ line_of (setup_of l) → Parses (setup_of l) before r before
unfolding setup_of
setup_parses l before r e = go (fits (text "## ##") l) e
  where
    go : (b : Bool) → r ≡ line_of (cond b (Some (write_event (octet_at 0 l) (octet_at 3 l))) None)
        → Parses (cond b (Some (write_event (octet_at 0 l) (octet_at 3 l))) None) before r before
    go true e = record { says = e; leaves = refl }
    go false e = record { says = e; leaves = refl }

-- ---- what it prints

-- an array stays as long as it was, so frames fit in it
sent_fits : (f before after : List ℕ) → after ≡ overlaid f before → length after ≡ length before → length f ≤ length before
sent_fits f before after e long =
    let n = length-append f (drop (length f) before) in
    let m = ap length e in
    omega arith

module _ (d : Device) (e : Event) (before : List ℕ) (r : Outcome) (after : List ℕ) (serves : Serves e d before r after) where
  pub counts : length after ≡ length before → r.count ≤ length before
  counts long = let m = sent_fits (joined (step (view d) e).frames) before after serves.lent long in let n = serves.count in omega arith

-- ---- any line of text has room

outcome_few : (r : Reply) (high : Bool) (l : List ℕ) → length l ≤ frame_room → length (outcome_text r high l) ≤ bench_line_room
unfolding outcome_text
outcome_few r high l h =
    let a = short r in
    let b = octets_long 72 l h in
    simp length-append (omega arith)

bad_few : (n : ℕ) → length (bad_line_text n) ≤ bench_line_room
unfolding bad_line_text
bad_few n = let a = few 10 n in simp length-append (omega arith)

why_few : (n : ℕ) (o : math.Option Reason) → length (why_text n o) ≤ bench_line_room
unfolding why_text
why_few n o = let a = few 10 n in let b = reason_short o in simp length-append (omega arith)

reason_few : (s : State) (o : Option Event) (n : ℕ) → length (reason_text_of s o n) ≤ bench_line_room
unfolding reason_text_of
reason_few s None n = omega arith
reason_few s (Some (write r a v)) n = omega arith
reason_few s (Some (read r a)) n = omega arith
reason_few s (Some (pass r t)) n = omega arith
reason_few s (Some (hard_reset r)) n = omega arith
reason_few s (Some (packet r k m)) n = why_few n (why s k m)
reason_few s (Some (sense r x y z)) n = omega arith

-- ---- what is told of it

module _ (s : State) (line : Line) (os : List ℕ) (number : ℕ) where
  no_reason : (f : Line) → ((k n : ℕ) → f ≡ Packet k n → ⊥) → reason_text_of s (Some (event_for f os)) number ≡ []
  unfolding reason_text_of
  no_reason (Write a v) h = refl
  no_reason (Read a) h = refl
  no_reason (Time n) h = refl
  no_reason HardReset h = refl
  no_reason (Packet k n) h = absurd (h k n refl)
  no_reason (Sense x y z) h = refl

  pub tells_nothing : (b : Bool) {out : List ℕ} {at : ℕ} → ((k n : ℕ) → line ≡ Packet k n → ⊥)
      → Prints b out at (reason_text_of s (Some (event_for line os)) number) at out
  tells_nothing true {out} {at} h = rw (no_reason line h) (record { puts = nothing out at })
  tells_nothing false {out} {at} h = record { puts = nothing out at }

  pub tells_why : (k n : ℕ) (w : Why No) {b : Bool} {out out' : List ℕ} {at r : ℕ} → line ≡ Packet k n → reason_of w ≡ why s k (take n os)
      → Prints b out at (why_text number (reason_of w)) r out' → Prints b out at (reason_text_of s (Some (event_for line os)) number) r out'
  unfolding reason_text_of
  tells_why k n w e q p = rw (e, ← q) p

-- ---- a parsed line whole

bad_told : (t : Telling) (s : State) (number : ℕ) → told_text t s None number ≡ bad_line_text number
unfolding told_text text_of
bad_told outcomes s number = refl
bad_told reasons s number = refl

module _ (t : Telling) (d : Device) (number : ℕ) (symbols out : List ℕ) (at : ℕ) (roomy : has_room bench_line_room out at ≡ true) (end : ℕ) (out' : List ℕ) where
  behind : at + bench_line_room ≤ length out
  behind = leb-true (at + bench_line_room) (length out) roomy

  pub acts_bad : Asks d → PrintsBad number out at end out'
      → ActsTelling t d None number symbols out at (record { device = d; ends = true; at = end }) symbols out'
  unfolding left_by sent_by joined
  acts_bad asks p =
      let printed : Puts out at (bad_line_text number) end out' = is_printed roomy p in
      let n = printed.next in
      let b = bad_few number in
      let h = behind in
      record { ends = refl; state = refl; asks = asks; prints = rw (bad_told t (view d) number) printed; fits = omega arith; symbols = refl }

  module _ (symbols' : List ℕ) (o : Outcome) (lent : length symbols ≡ 73) (kept : length symbols' ≡ 73) (high : Bool) (level : high ≡ not (int_low (view o.device))) where
    text_is : (e : Event) (h : Serves e d symbols o symbols')
        → outcome_text (replied o.reply) high (take o.count symbols')
        ≡ outcome_text (step (view d) e).reply (not (int_low (step (view d) e).state)) (joined (step (view d) e).frames)
    text_is e h =
        ap₂ (λ (r : Reply) (b : Bool). outcome_text r b (take o.count symbols')) h.reply (level ∙ ap (λ (s : State). not (int_low s)) h.state)
        ∙ ap (outcome_text (step (view d) e).reply (not (int_low (step (view d) e).state))) (served_symbols h)

    -- the text and where it ends
    record Told (u : Telling) (e : Event) : Type 0 where
      prints : Puts out at (told_text u (view d) (Some e) number) end out'
      fits : end ≤ length out

    outcome_told : (e : Event) → Serves e d symbols o symbols'
        → PrintsOutcome (replied o.reply) high (take o.count symbols') out at end out' → Told outcomes e
    unfolding told_text text_of result_text
    outcome_told e h p =
        let few = counts d e symbols o symbols' h (kept ∙ sym lent) in
        let long = length-take-le o.count symbols' (omega arith) in
        let fine = le-leb (length (take o.count symbols')) frame_room (omega arith) in
        let printed = is_printed (ap₂ (λ (a b : Bool). a && b) fine roomy) p in
        let n = printed.next in
        let b = outcome_few (replied o.reply) high (take o.count symbols') (omega arith) in
        let r = behind in
        record { prints = subst (λ (x : List ℕ). Puts out at x end out') (text_is e h) printed; fits = omega arith }

    reason_told : (e : Event) → Prints (has_room bench_line_room out at) out at (reason_text_of (view d) (Some e) number) end out' → Told reasons e
    unfolding told_text
    reason_told e p =
        let printed = is_printed roomy p in
        let n = printed.next in
        let b = reason_few (view d) (Some e) number in
        let r = behind in
        record { prints = printed; fits = omega arith }

    told_of : (u : Telling) (e : Event) (told : ℕ) (between : List ℕ) → Serves e d symbols o symbols'
        → TellsReason u (view d) (Some e) number out at told between
        → TellsOutcome u (replied o.reply) high (take o.count symbols') between told end out' → Told u e
    unfolding TellsReason TellsOutcome
    told_of outcomes e told between h p q = outcome_told e h (rw (p.0, p.1) at q)
    told_of reasons e told between h p q = reason_told e (rw (q.0, q.1) p)

    pub acts_done : (e : Event) (told : ℕ) (between : List ℕ) → Serves e d symbols o symbols'
        → TellsReason t (view d) (Some e) number out at told between
        → TellsOutcome t (replied o.reply) high (take o.count symbols') between told end out'
        → ActsTelling t d (Some e) number symbols out at (record { device = o.device; ends = false; at = end }) symbols' out'
    unfolding left_by sent_by
    acts_done e told between h p q =
        let is = told_of t e told between h p q in
        record { ends = refl; state = h.state; asks = h.asks; prints = is.prints; fits = is.fits; symbols = h.lent }

-- ---- the whole line

pub tells_none : {b : Bool} (t : Telling) (d : Device) (e : Option Event) (number : ℕ) (before : Lent) (at : ℕ) → b ≡ false
    → TakesLineTelling b t d e number before at (record { device = d; ends = true; at = at }) before
unfolding TakesLineTelling
tells_none t d e number before at h = rw h (refl, refl)

pub tells_line : {b : Bool} (t : Telling) (d : Device) (setup : Bool) (l : List ℕ) (number : ℕ) (before : Lent) (at : ℕ) (meant : Line) (r : Turned) (after : Lent)
    → b ≡ true → Parses (meant_by setup l) before.octets (Some meant) after.octets
    → ActsTelling t d (Some (event_for meant after.octets)) number before.symbols before.out at r after.symbols after.out
    → TakesLineTelling b t d (meant_by setup l) number before at r after
unfolding TakesLineTelling
tells_line t d setup l number before at meant r after roomy p x =
    let is = parsed_event setup l before.octets meant after.octets p in
    let acts = subst (λ (e : Option Event). ActsTelling t d e number before.symbols before.out at r after.symbols after.out) is x in
    rw roomy (record { acts = acts; octets = p.leaves })

pub tells_bad : {b : Bool} (t : Telling) (d : Device) (e : Option Event) (number : ℕ) (before : Lent) (at end : ℕ) (octets out : List ℕ) → has_room bench_line_room before.out at ≡ true
    → b ≡ true → Asks d → Parses e before.octets None octets → PrintsBad number before.out at end out
    → TakesLineTelling b t d e number before at (record { device = d; ends = true; at = end }) (record { out = out; octets = octets; symbols = before.symbols })
unfolding TakesLineTelling
tells_bad t d e number before at end octets out room is asks p x =
    let none = (out_of_form e before.octets octets p).0 in
    rw (is, none) (record { acts = acts_bad t d number before.symbols before.out at room end out asks x; octets = rw none at p.leaves })

-- ---- what was printed lies in what was lent

pub bad_within : (out : List ℕ) (at n r : ℕ) (out' : List ℕ) → at ≤ length out → PrintsBad n out at r out' → r ≤ length out
bad_within out at n r out' h p =
    ends_inside (has_room bench_line_room out at) h (λ e. omega (arith, leb-true (at + bench_line_room) (length out) e, bad_few n)) p

module _ (t : Telling) (d : Device) (e : Option Event) (number : ℕ) (before : Lent) (at : ℕ) (r : Turned) (after : Lent) where
  pub tell_asks : (b : Bool) → Asks d → TakesLineTelling b t d e number before at r after → Asks r.device
  unfolding TakesLineTelling
  tell_asks true asks h = h.acts.asks
  tell_asks false asks h = rw h.0 asks

  pub tell_within : (b : Bool) → at ≤ length before.out → TakesLineTelling b t d e number before at r after → r.at ≤ length before.out
  unfolding TakesLineTelling
  tell_within true h x = x.acts.fits
  tell_within false h x = rw x.0 h

-- ---- what tells outcomes is the bench's

module _ (d : Device) (e : Option Event) (number : ℕ) (before : Lent) (at : ℕ) (r : Turned) (after : Lent) where
  pub outcomes_taken : (b : Bool) → TakesLineTelling b outcomes d e number before at r after → TakesLine b d e number before at r after
  unfolding TakesLine TakesLineTelling
  outcomes_taken true h = record { acts = h.acts; octets = h.octets }
  outcomes_taken false h = h

  pub taken_outcomes : (b : Bool) → TakesLine b d e number before at r after → TakesLineTelling b outcomes d e number before at r after
  unfolding TakesLine TakesLineTelling
  taken_outcomes true h = record { acts = h.acts; octets = h.octets }
  taken_outcomes false h = h

  pub turn_asks : (b : Bool) → Asks d → TakesLine b d e number before at r after → Asks r.device
  turn_asks b asks h = tell_asks outcomes d e number before at r after b asks (taken_outcomes b h)

  pub turn_within : (b : Bool) → at ≤ length before.out → TakesLine b d e number before at r after → r.at ≤ length before.out
  turn_within b within h = tell_within outcomes d e number before at r after b within (taken_outcomes b h)

-- ---- where there is room and the run goes on, the line is in form and the device goes its step

pub steps_on : {b : Bool} (t : Telling) (d : Device) (o : Option Event) (number : ℕ) (before : Lent) (at : ℕ) (r : Turned) (after : Lent) (on : Bool)
    → b ≡ true → TakesLineTelling b t d o number before at r after → (not r.ends && on) ≡ true
    → (e : Event) × (o ≡ Some e) × (view r.device ≡ (step (view d) e).state)
unfolding TakesLineTelling left_by
steps_on {b = false} t d o number before at r after on roomy h goes = absurd (true≢false (sym roomy))
steps_on {b = true} t d None number before at r after on roomy h goes =
    absurd (true≢false (sym goes ∙ ap (λ (x : Bool). not x && on) h.acts.ends))
steps_on {b = true} t d (Some e) number before at r after on roomy h goes = (e, refl, h.acts.state)
