-- Three voltages: each a decimal up to 65,535, and a space behind the first two.
-- Assumes nothing.
use mathlib.Core.Path.{◌≡◌, refl, sym, ap, ◌∙◌}
use mathlib.Core.Bool.{false}
use mathlib.Core.List.{List, ◌∷◌}
use Rattle.std.specs.Prelude.{None, Some, Result, Ok, Err}
use Rattle.std.specs.Result.{result_ok, OkIff}
use Prim.Native.Nat.{ℕ, ◌+◌, ◌<◌, ◌≤◌}
use native.Mathlib.Omega.{arith}
use borrow.Author.Tests.{le-leb, lt-leb}
use lib.Dec.{eqb}
use native.Mathlib.Numerals.{add-one}
use lib.ListN.{length, drop, get_or, length-drop, get_or-eq_default}
use lib.Seq.{drop-cons}
use Rattle.script.specs.Text.{digits_in}
use Rattle.script.specs.Parse.{count_of, rest_part, millivolts_of, is_spaced, next_part}

-- ---- one voltage

pub no_volts : (l : List ℕ) → None ≡ count_of l → None ≡ millivolts_of l
unfolding millivolts_of
no_volts l e = rw (← e) refl

-- the code's `u16::try_from(v).ok()`
pub volts : {E : Type 0} (l : List ℕ) (v : ℕ) → Some v ≡ count_of l → (r : Result ℕ E) → OkIff r (v < 65536) v → result_ok r ≡ millivolts_of l
unfolding millivolts_of
volts l v e (Ok x) h = rw (← e, h.1, le-leb v 65535 (omega arith)) refl
volts l v e (Err x) h = rw (← e, lt-leb v 65535 (omega arith)) refl

-- ---- the three of a line

behind : (l : List ℕ) (n c : ℕ) (m : List ℕ) → drop n l ≡ c ∷ m → (get_or l n 0 ≡ c) × (drop (n + 1) l ≡ m)
behind l n c m e =
    let h : n < length l = omega (arith, ap length e, length-drop n l) in
    let d = sym (drop-cons l n 0 h) ∙ e in
    (cc, rw add-one (cc))

-- the character behind the digits
pub spaced : (l : List ℕ) (c : ℕ) (m : List ℕ) → rest_part l ≡ c ∷ m → (is_spaced l ≡ eqb c 0x20) × (next_part l ≡ m)
unfolding rest_part is_spaced next_part
spaced l c m e = let b = behind l (digits_in l) c m e in (rw b.0 refl, b.1)

-- or there is none
pub unspaced : (l : List ℕ) → length (rest_part l) ≡ 0 → is_spaced l ≡ false
unfolding rest_part is_spaced
unspaced l h = let k : length l ≤ digits_in l = omega (arith, length-drop (digits_in l) l) in rw (get_or-eq_default l 0 k) refl
