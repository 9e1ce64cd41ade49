-- Decimals: the digits passed and those to come are the whole count.
-- Assumes nothing.
use mathlib.Core.Path.{◌≡◌, refl, ap, ◌∙◌}
use mathlib.Core.Bool.{true, false, cond}
use mathlib.Core.List.{List, [], ◌∷◌}
use Prim.Native.Nat.{ℕ, ◌+◌, ◌*◌, ◌-◌, ◌^◌, ◌<◌, ◌≤◌}
use native.Mathlib.Nat.{pow-le-pow_right, pow-succ'}
use native.Mathlib.Numerals.{add-one}
use native.Mathlib.Omega.{arith}
use lib.ListN.{length, drop, get_or, drop_of_length-le}
use lib.Seq.{drop-cons}
use Rattle.std.specs.Prelude.{None, Some}
use Rattle.std.proofs.lemmas.Bool.Decides.{nat_tests}
use Rattle.std.specs.List.{prefix_len}
use Rattle.std.specs.Char.{IsDigitOf, NotDecimalDigitIn}
use Rattle.text.specs.Put.{onto, value_of}
use Rattle.text.proofs.Chars.{in_range, below, above}
use Rattle.script.specs.Text.{is_digit, all_digits, is_decimal, digits_in}
use Rattle.script.specs.Parse.{count_of}

-- ---- too few or too many

pub too_few : (l : List ℕ) → length l < 1 → count_of l ≡ None
unfolding count_of is_decimal
too_few l h = simp (below 1 7 (length l) h)

pub too_many : (l : List ℕ) → 7 < length l → count_of l ≡ None
unfolding count_of is_decimal
too_many l h = simp (above 1 7 (length l) h)

-- ---- the digits passed

pub digit_from : (c d : ℕ) → IsDigitOf c d → d < 10 → (48 ≤ c) × (c ≤ 57) × (48 + d ≡ c)
digit_from c d h k = grind arith

not_digit : (c : ℕ) → NotDecimalDigitIn 10 c → is_digit c ≡ false
unfolding is_digit
not_digit c h = grind (arith, nat_tests)

pub record Reading (l : List ℕ) (v i : ℕ) : Type 0 where
  pub at_least : 1 ≤ length l
  pub at_most : length l ≤ 7
  pub inside : i ≤ length l
  pub digits : all_digits l ≡ all_digits (drop i l)
  pub value : value_of l ≡ onto v (drop i l)
  pub small : v < 10 ^ i

pub begin : (l : List ℕ) → 1 ≤ length l → length l ≤ 7 → Reading l 0 0
unfolding value_of
begin l h k = record { at_least = h; at_most = k; inside = omega arith; digits = refl; value = refl; small = omega arith }

module _ (l : List ℕ) (v i : ℕ) (st : Reading l v i) where
  pub read : length l ≤ i → Some v ≡ count_of l
  unfolding count_of is_decimal all_digits onto
  read h =
      let e : drop i l ≡ [] = drop_of_length-le l h in
      let d : all_digits l ≡ true = st.digits ∙ ap all_digits e in
      let w : value_of l ≡ v = st.value ∙ ap (onto v) e in
      simp (in_range 1 7 (length l) st.at_least st.at_most, d, w)

  pub few : v < 10000000
  few =
      let k = st.small in
      let n = st.at_most in
      let m = st.inside in
      let p = pow-le-pow_right {n = 10} (omega arith) {i = i} {j = 7} (omega arith) in
      omega arith

  module _ (h : i < length l) where
    pub stray : NotDecimalDigitIn 10 (get_or l i 0) → count_of l ≡ None
    unfolding count_of is_decimal all_digits
    stray f =
        let d : all_digits l ≡ false = st.digits ∙ ap all_digits (drop-cons l i 0 h) ∙ rw (not_digit (get_or l i 0) f) refl in
        simp (in_range 1 7 (length l) st.at_least st.at_most, d)

    pub bound : v < 1000000
    bound =
        let k = st.small in
        let n = st.at_most in
        let p = pow-le-pow_right {n = 10} (omega arith) {i = i} {j = 6} (omega arith) in
        omega arith

    pub goes_on : (d : ℕ) → (48 ≤ get_or l i 0) × (get_or l i 0 ≤ 57) × (48 + d ≡ get_or l i 0) → Reading l (10 * v + d) (i + 1)
    unfolding is_digit all_digits onto
    goes_on d f =
        let k = st.small in
        let e : d ≡ get_or l i 0 - 48 = omega (arith, f.2) in
        record {
          at_least = st.at_least;
          at_most = st.at_most;
          inside = omega arith;
          digits = rw add-one (st.digits ∙ ap all_digits (drop-cons l i 0 h) ∙ rw (in_range 48 57 (get_or l i 0) f.0 f.1) refl);
          value = rw (add-one, e) (st.value ∙ ap (onto v) (drop-cons l i 0 h));
          small = rw add-one (omega (arith, pow-succ' 10 i, f.1, f.2));
        }

-- ---- how many digits a line begins with

pub digits_are : (l : List ℕ) → digits_in l ≡ prefix_len is_digit l
unfolding digits_in
digits_are [] = refl
digits_are (c ∷ l) = let h = digits_are l in ap (λ (n : ℕ). cond (is_digit c) n 0) (omega arith)
