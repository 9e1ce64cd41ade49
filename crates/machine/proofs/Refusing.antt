-- Refusals: the first row that applies is given, a refusal changes nothing, and each number is given somewhere.
-- Assumes nothing.
use mathlib.Core.Path.{◌≡◌, refl, ap, ◌∙◌}
use mathlib.Core.Bool.{Bool, true, false, cond}
use mathlib.Core.List.{List, [], ◌∷◌, ◌++◌}
use mathlib.Core.Logic.{◌↔◌}
use mathlib.Core.Option.{Option, none, some}
use Prim.Native.Nat.{ℕ, zero, suc, ◌<◌}
use native.Mathlib.Omega.{arith}
use lib.ListN.{length, take, drop, get_or, replicate}
use lib.Seq.{split_at}
use Rattle.line.specs.Frame.{Octets}
use Rattle.line.specs.Refusal.{Row, first_no}
use Rattle.machine.specs.State.{State, power_up}
use Rattle.machine.specs.Events.{Event, write, read, pass, hard_reset, packet, sense, Fits, no}
use Rattle.machine.specs.Refusals.{no_row, table, refusal}
use Rattle.machine.specs.Step.{reply_to, result_of, step, after}
use Rattle.machine.specs.Bench.{w, port, name_queue}
use Rattle.machine.specs.Theorems.{
  AllFit,
  NoneApplies,
  FirstToApply,
  RefusedExactly,
  RefusalChangesNothing,
  GivenAfter,
  EachNumberGiven,
  Applies,
  GivenBefore,
  OrderOfChecks,
}
use Rattle.machine.proofs.Computing.{computed}

-- ---- the first row that applies

-- what the number of the first row says of the rows
abbrev Means : List Row → Option ℕ → Type 0
Means rows none = NoneApplies rows
Means rows (some n) = FirstToApply n rows

later : (r : Row) (rs : List Row) (o : Option ℕ) → r.applies ≡ false → Means rs o → Means (r ∷ rs) o
later r rs none e m = (e, m)
later r rs (some n) e m =
    record {
      row =
          record {
            before = r ∷ m.row.before;
            here = m.row.here;
            behind = m.row.behind;
            is = ap (λ (l : List Row). r ∷ l) m.row.is;
            number = m.row.number;
            applies = m.row.applies;
          };
      not_before = (e, m.not_before);
    }

first_means : (rows : List Row) → Means rows (first_no rows)
unfolding first_no
first_means [] = tt
first_means (r ∷ rs) = go r.applies refl (first_means rs)
  where
    go : (b : Bool) → r.applies ≡ b → Means rs (first_no rs) → Means (r ∷ rs) (cond b (some r.number) (first_no rs))
    go true e m =
        record {
          row = record { before = []; here = r; behind = rs; is = refl; number = refl; applies = e };
          not_before = tt;
        }
    go false e m = later r rs (first_no rs) e m

passed : (before rows : List Row) → NoneApplies before → first_no (before ++ rows) ≡ first_no rows
unfolding first_no
passed [] rows n = refl
passed (r ∷ before) rows n = rw n.0 (passed before rows n.1)

none_first : (rows : List Row) → NoneApplies rows → first_no rows ≡ none
unfolding first_no
none_first [] n = refl
none_first (r ∷ rows) n = rw n.0 (none_first rows n.1)

some_first : (rows : List Row) (n : ℕ) → FirstToApply n rows → first_no rows ≡ some n
unfolding first_no
some_first rows n f =
    let row = f.row in
    ap first_no row.is ∙ passed row.before (row.here ∷ row.behind) f.not_before ∙ rw (row.applies, row.number)

pub first_none_exactly : (rows : List Row) → (first_no rows ≡ none) ↔ NoneApplies rows
first_none_exactly rows = (λ e. rw e at (first_means rows), none_first rows)

pub first_some_exactly : (rows : List Row) (n : ℕ) → (first_no rows ≡ some n) ↔ FirstToApply n rows
first_some_exactly rows n = (λ e. rw e at (first_means rows), some_first rows n)

-- ---- 2. Refused exactly

-- what is accepted is not answered by no
pub accepted_reply : (s : State) (e : Event) (n : ℕ) → reply_to s e ≡ no n → ⊥
unfolding reply_to
accepted_reply s (write r a v) n q = let z : ◌≡◌ {A = ℕ} 0 1 = cc in omega arith
accepted_reply s (read r a) n q = let z : ◌≡◌ {A = ℕ} 0 1 = cc in omega arith
accepted_reply s (pass r k) n q = let z : ◌≡◌ {A = ℕ} 0 1 = cc in omega arith
accepted_reply s (hard_reset r) n q = let z : ◌≡◌ {A = ℕ} 0 1 = cc in omega arith
accepted_reply s (packet r k m) n q = let z : ◌≡◌ {A = ℕ} 0 1 = cc in omega arith
accepted_reply s (sense r x y z) n q = let z : ◌≡◌ {A = ℕ} 0 1 = cc in omega arith

result_no : (o : Option ℕ) (s : State) (e : Event) (n : ℕ) → (result_of o s e).reply ≡ no n → o ≡ some n
unfolding result_of
result_no none s e n q = absurd (accepted_reply s e n q)
result_no (some m) s e n q = cc

refused : (s : State) (e : Event) (n : ℕ) → ((step s e).reply ≡ no n) ↔ (refusal s e ≡ some n)
unfolding step result_of
refused s e n = (result_no (refusal s e) s e n, λ q. rw q)

pub refused_exactly : RefusedExactly
unfolding refusal
refused_exactly s e n =
    let rows = first_some_exactly (table s e) n in
    let r = refused s e n in
    (λ q. rows.0 (r.0 q), λ f. r.1 (rows.1 f))

pub refusal_changes_nothing : RefusalChangesNothing
unfolding step result_of
refusal_changes_nothing s e n q = let o = (refused s e n).0 q in (rw o, rw o)

-- ---- each number is given

port_fits : (l : List ℕ) → Octets l → AllFit (port l)
port_fits [] o = tt
port_fits (b ∷ l) o = ((omega arith, o.0), port_fits l o.1)

pub same_octets : (n b : ℕ) → b < 256 → Octets (replicate n b)
same_octets zero b h = tt
same_octets (suc n) b h = (h, same_octets n b h)

-- refused at power-up
at_once : {n : ℕ} (e : Event) → Fits e → (step power_up e).reply ≡ no n → GivenAfter n
unfolding after
at_once e h q = record { history = []; event = e; fits = (tt, h); refused = q }

in_flight : GivenAfter 6
unfolding computed
in_flight =
    let queue = name_queue ++ (0xA1 ∷ []) in
    record {
      history = w 0x03 0x21 ∷ port queue;
      event = w 0x43 0x12;
      fits = ((omega arith, port_fits queue (omega arith)), omega arith);
      refused = refl;
    }

full : GivenAfter 5
unfolding computed
full =
    let queue : List ℕ = replicate 48 0x12 in
    record {
      history = port queue;
      event = w 0x43 0x12;
      fits = (port_fits queue (same_octets 48 0x12 (omega arith)), omega arith);
      refused = refl;
    }

pub each_number_given : EachNumberGiven
unfolding computed
each_number_given =
    record {
      no_12 = at_once (write 72 2 0) (omega arith) refl;
      no_1 = at_once (read 73 0) (omega arith) refl;
      no_2 = at_once (w 1 0) (omega arith) refl;
      no_6 = in_flight;
      no_3 = at_once (w 0x43 0x81) (omega arith) refl;
      no_5 = full;
      no_4 = at_once (w 0x06 0x01) (omega arith) refl;
      no_7 = at_once (w 0x09 0x40) (omega arith) refl;
      no_8 = at_once (read 73 0x43) (omega arith) refl;
      no_11 = at_once (packet 73 5 []) (omega arith) refl;
      no_9 = at_once (packet 73 0 []) (omega arith) refl;
      no_10 = at_once (pass 73 1001) (omega arith) refl;
    }

-- ---- the order of checks, on events to which two rows apply

applies_at : (rows : List Row) (i : ℕ) → i < length rows → (get_or rows i (no_row 0 false)).applies ≡ true
    → Applies (get_or rows i (no_row 0 false)).number rows
applies_at rows i h e =
    record {
      before = take i rows;
      here = get_or rows i (no_row 0 false);
      behind = drop (suc i) rows;
      is = split_at rows i (no_row 0 false) h;
      number = refl;
      applies = e;
    }

-- row i of the table applies as well
met : (n i : ℕ) (es : List Event) (e : Event) → i < 12 → (step (after power_up es) e).reply ≡ no n
    → (get_or (table (after power_up es) e) i (no_row 0 false)).applies ≡ true
    → GivenBefore n (get_or (table (after power_up es) e) i (no_row 0 false)).number
met n i es e h r a = record { history = es; event = e; refused = r; other = applies_at (table (after power_up es) e) i h a }

-- a request that waits
abbrev waiting : List Event
waiting = w 0x03 0x21 ∷ (port name_queue ++ (w 0x43 0xA1 ∷ []))

pub order_of_checks : OrderOfChecks
unfolding computed
order_of_checks =
    record {
      buffer_address = met 12 1 [] (read 72 0x00) (omega arith) refl refl;
      buffer_time = met 12 11 [] (pass 72 1001) (omega arith) refl refl;
      open_token = met 6 4 waiting (w 0x43 0x81) (omega arith) refl refl;
      open_message = met 6 6 waiting (w 0x06 0x41) (omega arith) refl refl;
      open_driver = met 6 7 (waiting ++ (w 0x03 0x20 ∷ [])) (w 0x06 0x01) (omega arith) refl refl;
      message_driver = met 4 7 [] (w 0x06 0x01) (omega arith) refl refl;
      kind_length = met 11 10 [] (packet 73 5 []) (omega arith) refl refl;
    }
