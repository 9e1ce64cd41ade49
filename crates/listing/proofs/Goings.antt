-- Each way that a step can go, from what its function did.
-- Assumes nothing.
use mathlib.Core.Path.{◌≡◌, refl, sym, ap, subst}
use mathlib.Core.Bool.{Bool, true, false}
use mathlib.Core.List.{List, [], ◌∷◌, ◌++◌}
use Prim.Native.Nat.{ℕ, zero, suc, ◌+◌, ◌<◌, ◌≤◌, ◌^◌}
use native.Mathlib.Omega.{arith}
use native.Mathlib.Nat.{add-zero}
use native.Mathlib.Numerals.{add-one}
use borrow.Author.Tests.{leb-true, ltb-true, lt-ltb}
use lib.Dec.{ltb}
use lib.ListN.{length, take, set, length-append}
use lib.Seq.{take-suc-set, length-take-le}
use Rattle.line.specs.Read.{ReadFrame, First, frame, wrong_crc, too_short, no_frame, first}
use Rattle.text.specs.Put.{has_room, Puts}
use Rattle.std.proofs.lemmas.Bool.{and_parts}
use Rattle.text.proofs.Texts.{ends_inside}
use Rattle.std.specs.Prelude.{Option, Some, None}
use Rattle.listing.specs.declared.form.Scan.{Scan}
use Rattle.listing.specs.declared.form.Scan.TheVariants.{Begin, Digit, Symbol, Line, Space}
use Rattle.listing.specs.declared.Listing.{Listing}
use Rattle.listing.specs.Lines.{frame_text, no_text, bad_octet_text, frame_line_room}
use Rattle.listing.specs.Listed.{short_text}
use Rattle.listing.specs.Scans.{form_after, input_may_end}
use Rattle.listing.specs.Steps.{goes, stops, on_symbol, step_to, end_text}
use Rattle.listing.specs.Promises.{Fed, window_room, Bounded, in_bounds, may_print, stopped, printed_by, fed_by, window_after, Goes, TakesCharacter, Feeds, Finishes}
use Rattle.listing.proofs.Places.{short_few}
use Rattle.listing.proofs.Texts.{frame_short, no_short, bad_short}

-- the symbols held, and one more
pub one_more : (n v : ℕ) (window : List ℕ) → n < length window → take (n + 1) (set window n v) ≡ take n window ++ (v ∷ [])
one_more n v window h = rw (add-one n) (take-suc-set window n v h)

pub room : (out : List ℕ) (at : ℕ) → has_room frame_line_room out at ≡ true → at + frame_line_room ≤ length out
room out at h = leb-true (at + frame_line_room) (length out) h

module _ (l : Listing) (window out : List ℕ) (at : ℕ) (right : Bounded l) (long : length window ≡ window_room) (roomy : has_room frame_line_room out at ≡ true) where
  -- what is printed ends inside
  inside : (t : List ℕ) {e : ℕ} {out' : List ℕ} → length t ≤ frame_line_room → Puts out at t e out' → e ≤ length out
  inside t h p = omega (arith, p.next, room out at roomy)

  -- ---- a symbol

  module _ (v : ℕ) where
    -- the symbols with it
    abbrev all : List ℕ
    all = take l.count window ++ (v ∷ [])

    pub all_long : length all ≡ l.count + 1
    all_long = omega (arith, length-append (take l.count window) (v ∷ []), length-take-le l.count window (omega (arith, right.few)))

    by_first : (f : First) → first all ≡ f → step_to (Some (Symbol v)) l.before (take l.count window) ≡ on_symbol (Symbol v) l.before all f
    unfolding step_to
    by_first f e = ap (on_symbol (Symbol v) l.before all) e

    pub goes_frame : (r : ReadFrame) (e : ℕ) (out' : List ℕ) → first all ≡ frame r → length r.shape.octets ≤ 34 → Puts out at (frame_text l.before r) e out'
        → Goes l (Some (Symbol v)) window out at (record { listing = record { scan = Symbol v; before = l.before + l.count + 1; count = 0 }; ends = false; at = e }) (set window l.count v) out'
    unfolding on_symbol fed_by printed_by window_after
    goes_frame r e out' is few p =
        let place : l.before + length all ≡ l.before + l.count + 1 = omega (arith, all_long) in
        record {
          fed = rw (by_first (frame r) is, place, p.next) refl;
          stands = rw (by_first (frame r) is) p.stands;
          holds = refl;
          inside = inside (frame_text l.before r) (frame_short l.before r few) p;
          few = omega arith;
          counts = omega arith;
        }

    pub goes_short : (q : ℕ) → first all ≡ too_short q
        → Goes l (Some (Symbol v)) window out at (record { listing = record { scan = Symbol v; before = l.before; count = l.count + 1 }; ends = false; at = at }) (set window l.count v) out
    unfolding on_symbol fed_by printed_by window_after
    goes_short q is =
        let few = short_few all q is in
        record {
          fed = rw (by_first (too_short q) is, all_long, add-zero at) refl;
          stands = rw (by_first (too_short q) is) refl;
          holds = refl;
          inside = omega (arith, room out at roomy);
          few = omega (arith, all_long);
          counts = omega arith;
        }

    stops_with : (t : List ℕ) (e : ℕ) (out' : List ℕ) → step_to (Some (Symbol v)) l.before (take l.count window) ≡ stops t → length t ≤ frame_line_room → Puts out at t e out'
        → Goes l (Some (Symbol v)) window out at (stopped l e) (set window l.count v) out'
    unfolding fed_by printed_by window_after
    stops_with t e out' is few p =
        record {
          fed = rw (is, p.next) refl;
          stands = rw is p.stands;
          holds = refl;
          inside = inside t few p;
          few = right.few;
          counts = omega arith;
        }

    pub goes_none : (q e : ℕ) (out' : List ℕ) → first all ≡ no_frame q → Puts out at (no_text 13 (l.before + q)) e out'
        → Goes l (Some (Symbol v)) window out at (stopped l e) (set window l.count v) out'
    unfolding on_symbol
    goes_none q e out' is p = stops_with (no_text 13 (l.before + q)) e out' (by_first (no_frame q) is) (no_short 13 (l.before + q)) p

    pub goes_wrong : (q e : ℕ) (out' : List ℕ) → first all ≡ wrong_crc q → Puts out at (no_text 15 (l.before + q)) e out'
        → Goes l (Some (Symbol v)) window out at (stopped l e) (set window l.count v) out'
    unfolding on_symbol
    goes_wrong q e out' is p = stops_with (no_text 15 (l.before + q)) e out' (by_first (wrong_crc q) is) (no_short 15 (l.before + q)) p

  -- ---- any other form of the text

  pub goes_broken : (e : ℕ) (out' : List ℕ) → Puts out at (bad_octet_text (l.before + l.count + 1)) e out'
      → Goes l None window out at (stopped l e) window out'
  unfolding step_to fed_by printed_by window_after
  goes_broken e out' p =
      let n : length (take l.count window) ≡ l.count = length-take-le l.count window (omega (arith, right.few)) in
      record {
        fed = rw (n, p.next) refl;
        stands = rw n p.stands;
        holds = refl;
        inside = inside (bad_octet_text (l.before + l.count + 1)) (bad_short (l.before + l.count + 1)) p;
        few = right.few;
        counts = omega arith;
      }

  on : (to : Scan) → step_to (Some to) l.before (take l.count window) ≡ goes [] (record { scan = to; before = l.before; symbols = take l.count window })
      → window_after (Some to) l.count window ≡ window
      → Goes l (Some to) window out at (record { listing = record { scan = to; before = l.before; count = l.count }; ends = false; at = at }) window out
  unfolding fed_by printed_by
  on to is same =
      let n : length (take l.count window) ≡ l.count = length-take-le l.count window (omega (arith, right.few)) in
      record {
        fed = rw (is, n, add-zero at) refl;
        stands = rw is refl;
        holds = sym same;
        inside = omega (arith, room out at roomy);
        few = right.few;
        counts = omega arith;
      }

  -- no symbol
  pub goes_on : (to : Scan) → ((v : ℕ) → to ≡ Symbol v → ⊥)
      → Goes l (Some to) window out at (record { listing = record { scan = to; before = l.before; count = l.count }; ends = false; at = at }) window out
  unfolding step_to window_after
  goes_on Begin s = on Begin refl refl
  goes_on (Digit a) s = on (Digit a) refl refl
  goes_on (Symbol v) s = absurd (s v refl)
  goes_on Line s = on Line refl refl
  goes_on Space s = on Space refl refl

-- ---- the same step by another name, and the same outcome

pub goes_to : {l : Listing} {to s : Option Scan} {window out window' out' : List ℕ} {at : ℕ} {r : Fed} → to ≡ s → Goes l s window out at r window' out' → Goes l to window out at r window' out'
goes_to {l} {to} {s} {window} {out} {window'} {out'} {at} {r} e g = subst (λ (x : Option Scan). Goes l x window out at r window' out') (sym e) g

pub gives : {l : Listing} {to : Option Scan} {window out window' out' : List ℕ} {at : ℕ} {r s : Fed} → r ≡ s → Goes l to window out at s window' out' → Goes l to window out at r window' out'
gives {l} {to} {window} {out} {window'} {out'} {at} {r} {s} e g = subst (λ (x : Fed). Goes l to window out at x window' out') (sym e) g

-- ---- a character, with room

-- a listing that may print is in bounds, and has room
module _ (l : Listing) (out : List ℕ) (at : ℕ) where
  pub may_bounds : may_print l out at ≡ true → Bounded l
  may_bounds e =
      let b = and_parts (ltb l.count window_room) (ltb (l.before + l.count + 1) (2 ^ 64)) (and_parts (in_bounds l) (has_room frame_line_room out at) e).0 in
      record { few = ltb-true l.count window_room b.0; fits = ltb-true (l.before + l.count + 1) (2 ^ 64) b.1 }

  pub may_room : may_print l out at ≡ true → has_room frame_line_room out at ≡ true
  may_room e = (and_parts (in_bounds l) (has_room frame_line_room out at) e).1

  pub bounds_may : Bounded l → has_room frame_line_room out at ≡ true → may_print l out at ≡ true
  bounds_may b h = simp (lt-ltb l.count window_room b.few, lt-ltb (l.before + l.count + 1) (2 ^ 64) b.fits, h)

-- where it may print a character is taken
pub took : (l : Listing) (c : ℕ) (window out : List ℕ) (at : ℕ) (r : Fed) (window' out' : List ℕ) → may_print l out at ≡ true → Feeds l c window out at r window' out'
    → Goes l (form_after l.scan c) window out at r window' out'
unfolding TakesCharacter
took l c window out at r window' out' e t = subst (λ (b : Bool). TakesCharacter b l c window out at r window' out') e t

-- what feed prints ends inside
pub feed_inside : (l : Listing) (c : ℕ) (window out : List ℕ) (at : ℕ) (r : Fed) (window' out' : List ℕ) → at ≤ length out → Feeds l c window out at r window' out' → r.at ≤ length out
unfolding TakesCharacter
feed_inside l c window out at r window' out' h = go (may_print l out at)
  where
    go : (b : Bool) → TakesCharacter b l c window out at r window' out' → r.at ≤ length out
    go true g = g.inside
    go false g = rw g.0 h

-- ---- the end of the input

end_short : (b : Bool) (p n : ℕ) → length (short_text b p n) ≤ frame_line_room
unfolding short_text
end_short true p zero = omega arith
end_short true p (suc n) = no_short 14 (p + suc n)
end_short false p n = bad_short (p + n + 1)

-- what finish prints ends inside
pub finish_inside : (l : Listing) (out : List ℕ) (at r : ℕ) (out' : List ℕ) → at ≤ length out → Finishes l out at r out' → r ≤ length out
unfolding end_text
finish_inside l out at r out' h p =
    ends_inside (may_print l out at) h
    (λ e. omega (arith, room out at (may_room l out at e), end_short (input_may_end l.scan) l.before l.count))
    p
