-- What each call prints stands between its place and the next, and its window holds the symbols of the state that it leaves.
-- Assumes nothing.
use mathlib.Core.Path.{◌≡◌, refl, sym, ap, ◌∙◌, subst}
use mathlib.Core.Bool.{Bool, true, false}
use mathlib.Core.List.{List, [], ◌∷◌, ◌++◌, append_assoc}
use Prim.Native.Nat.{ℕ, ◌+◌, ◌-◌, ◌<◌, ◌≤◌, ◌^◌}
use native.Mathlib.Omega.{arith}
use borrow.Author.Tests.{leb-true}
use lib.ListN.{length, take, drop, set, length-append, length-set}
use lib.Seq.{sets, sets-eq, take_at, drop_at, length-take-le}
use Rattle.line.specs.Read.{First, frame, wrong_crc, too_short, no_frame, first}
use Rattle.text.proofs.Texts.{is_printed}
use Rattle.std.specs.Prelude.{Option, Some, None}
use Rattle.listing.specs.declared.form.Scan.{Scan}
use Rattle.listing.specs.declared.form.Scan.TheVariants.{Begin, Digit, Symbol, Line, Space}
use Rattle.listing.specs.declared.Listing.{Listing}
use Rattle.listing.specs.Lines.{frame_line_room}
use Rattle.listing.specs.Scans.{form_after}
use Rattle.listing.specs.Steps.{ListingState, empty_state, Step, goes, stops, on_symbol, step_to, character_step, end_text, then_all, printed_from}
use Rattle.listing.specs.Promises.{Fed, window_room, state_of, listing_of, printed_by, fed_by, window_after}
use Rattle.listing.specs.Calls.{text_between, CallsPrint, last, on, stop}
use Rattle.listing.specs.Theorems.{ListsByCalls}
use Rattle.listing.proofs.Goings.{one_more, bounds_may, took, finish_inside}
use Rattle.listing.proofs.Lists.{lists_all}

-- ---- what is printed is what stands there

stands_between : (out t : List ℕ) (at : ℕ) → at + length t ≤ length out → text_between at (at + length t) (sets out at t) ≡ t
stands_between out t at h =
    let rest = drop (at + length t) out in
    let far : at + length t - at ≡ length t = omega arith in
    let split : sets out at t ≡ take at out ++ (t ++ rest) = sets-eq t out at h ∙ append_assoc (take at out) t rest in
    let behind : drop at (sets out at t) ≡ t ++ rest = ap (drop at) split ∙ drop_at (take at out) (t ++ rest) at (length-take-le at out (omega arith)) in
    ap (λ (k : ℕ). take k (drop at (sets out at t))) far ∙ ap (take (length t)) behind ∙ take_at t rest (length t) refl

shown : (out t : List ℕ) (at r : ℕ) (out' : List ℕ) → r ≡ at + length t → out' ≡ sets out at t → r ≤ length out → text_between at r out' ≡ t
shown out t at r out' e is h =
    ap (λ (k : ℕ). text_between at k out') e ∙ ap (text_between at (at + length t)) is ∙ stands_between out t at (omega (arith, e))

-- ---- the window holds the symbols of the state

-- the first symbols of the window are the state's
abbrev Kept : List ℕ → Step → Type 0
Kept window (goes t s) = take (length s.symbols) window ≡ s.symbols
Kept window (stops t) = Unit {0}

same_symbols : (n : ℕ) (window : List ℕ) → n ≤ length window → take (length (take n window)) window ≡ take n window
same_symbols n window h = ap (λ (k : ℕ). take k window) (length-take-le n window h)

module _ (n : ℕ) (window : List ℕ) (few : n < length window) (p : ℕ) where
  kept_symbol : (v : ℕ) (f : First) → Kept (set window n v) (on_symbol (Symbol v) p (take n window ++ (v ∷ [])) f)
  unfolding on_symbol
  kept_symbol v (frame r) = refl
  kept_symbol v (wrong_crc q) = tt
  kept_symbol v (too_short q) =
      let long : length (take n window ++ (v ∷ [])) ≡ n + 1 = omega (arith, length-append (take n window) (v ∷ []), length-take-le n window (omega arith)) in
      ap (λ (k : ℕ). take k (set window n v)) long ∙ one_more n v window few
  kept_symbol v (no_frame q) = tt

  kept : (to : Option Scan) → Kept (window_after to n window) (step_to to p (take n window))
  unfolding step_to window_after
  kept (Some Begin) = same_symbols n window (omega arith)
  kept (Some (Digit a)) = same_symbols n window (omega arith)
  kept (Some (Symbol v)) = kept_symbol v (first (take n window ++ (v ∷ [])))
  kept (Some Line) = same_symbols n window (omega arith)
  kept (Some Space) = same_symbols n window (omega arith)
  kept None = tt

window_long : (to : Option Scan) (n : ℕ) (window : List ℕ) → length (window_after to n window) ≡ length window
unfolding window_after
window_long (Some Begin) n window = refl
window_long (Some (Digit a)) n window = refl
window_long (Some (Symbol v)) n window = length-set window n v
window_long (Some Line) n window = refl
window_long (Some Space) n window = refl
window_long None n window = refl

-- ---- a call's part of what is printed, and the rest

-- by how the step goes
goes_on : (st : Step) (l : Listing) (at : ℕ) (window' : List ℕ) (r : Fed) (input t : List ℕ) → Kept window' st → r ≡ fed_by st l at → r.ends ≡ false
    → (t ≡ printed_from (state_of r.listing window') input) → printed_by st ++ t ≡ then_all st (λ (n : ListingState). printed_from n input)
unfolding fed_by printed_by then_all
goes_on (goes u s) l at window' r input t kept is e rest =
    let left : r.listing ≡ listing_of s = ap (λ (f : Fed). f.listing) is in
    let back : state_of r.listing window' ≡ s =
    ap (λ (m : Listing). state_of m window') left ∙ (λ i. record { scan = s.scan; before = s.before; symbols = kept i }) in
    ap (λ (x : List ℕ). u ++ x) (rest ∙ ap (λ (n : ListingState). printed_from n input) back)
goes_on (stops u) l at window' r input t kept is e rest = let z : ◌≡◌ {A = Bool} true false = sym (ap (λ (f : Fed). f.ends) is) ∙ e in cc

stops_there : (st : Step) (l : Listing) (at : ℕ) (r : Fed) (rest : ListingState → List ℕ) → r ≡ fed_by st l at → r.ends ≡ true → printed_by st ≡ then_all st rest
unfolding fed_by printed_by then_all
stops_there (goes u s) l at r rest is e = let z : ◌≡◌ {A = Bool} false true = sym (ap (λ (f : Fed). f.ends) is) ∙ e in cc
stops_there (stops u) l at r rest is e = refl

at_of : (st : Step) (l : Listing) (at : ℕ) (r : Fed) → r ≡ fed_by st l at → r.at ≡ at + length (printed_by st)
unfolding fed_by printed_by
at_of (goes u s) l at r is = ap (λ (f : Fed). f.at) is
at_of (stops u) l at r is = ap (λ (f : Fed). f.at) is

-- a listing, its window and what is called from there on
called : {l : Listing} {window input t : List ℕ} → length window ≡ window_room → l.count < window_room → l.before + l.count + length input + 1 < 2 ^ 64
    → CallsPrint l window input t → t ≡ printed_from (state_of l window) input
unfolding printed_from character_step end_text
called long few counts (last l window out at r out' room p) =
    let may = bounds_may l out at (record { few = few; fits = omega arith }) room in
    let q = is_printed may p in
    let n : length (take l.count window) ≡ l.count = length-take-le l.count window (omega arith) in
    let roomy = leb-true (at + frame_line_room) (length out) room in
    let inside = finish_inside l out at r out' (omega arith) p in
    shown out (end_text l.scan l.before l.count) at r out' q.next q.stands inside ∙ ap (end_text l.scan l.before) (sym n)
called long few counts (on l window out at c r window' out' input u room p e more) =
    let st = step_to (form_after l.scan c) l.before (take l.count window) in
    let g = took l c window out at r window' out' (bounds_may l out at (record { few = few; fits = omega arith }) room) p in
    let long' : length window' ≡ window_room = ap length g.holds ∙ window_long (form_after l.scan c) l.count window ∙ long in
    ap (λ (x : List ℕ). x ++ u) (shown out (printed_by st) at r.at out' (at_of st l at r g.fed) g.stands g.inside)
    ∙ goes_on st l at window' r input u
    (subst (λ (w : List ℕ). Kept w st) (sym g.holds) (kept l.count window (omega arith) l.before (form_after l.scan c)))
    g.fed e (called long' g.few (omega (arith, g.counts)) more)
called long few counts (stop l window out at c r window' out' input room p e) =
    let st = step_to (form_after l.scan c) l.before (take l.count window) in
    let g = took l c window out at r window' out' (bounds_may l out at (record { few = few; fits = omega arith }) room) p in
    shown out (printed_by st) at r.at out' (at_of st l at r g.fed) g.stands g.inside ∙ stops_there st l at r _ g.fed e

pub lists_by_calls : ListsByCalls
unfolding empty_state
lists_by_calls window input t long counts c = called long (omega arith) (omega arith) c ∙ lists_all input
