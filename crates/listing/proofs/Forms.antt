-- The form of a record's text, character by character: what is still to come from each form on.
-- Assumes nothing.
use mathlib.Core.Path.{◌≡◌, refl}
use mathlib.Core.Bool.{Bool, true, false, cond, ◌&&◌, ◌||◌}
use mathlib.Core.List.{List, [], ◌∷◌}
use Prim.Native.Nat.{ℕ}
use lib.Dec.{eqb}
use Rattle.text.specs.Hex.{is_hex, octet_of}
use Rattle.std.specs.Prelude.{Option, Some, None}
use Rattle.listing.specs.declared.form.Scan.{Scan}
use Rattle.listing.specs.declared.form.Scan.TheVariants.{Begin, Digit, Symbol, Line, Space}
use Rattle.listing.specs.Form.{ReadText, ended, broken, symbol_then, is_empty, gap_then, symbols_in, recorded}
use Rattle.listing.specs.Scans.{first_digit, second_digit, gap, form_after, input_may_end}

-- ---- what is still to come

-- a symbol before others
abbrev ahead : ℕ → ReadText → ReadText
ahead v r = record { symbols = v ∷ r.symbols; kept = r.kept }

-- behind a symbol
unfoldable pub behind : List ℕ → ReadText
behind [] = ended
behind (c ∷ l) = gap_then c l (symbols_in l)

-- behind the first digit of a symbol
unfoldable pub second : ℕ → List ℕ → ReadText
second a [] = broken
second a (b ∷ l) = cond (is_hex b) (ahead (octet_of a b) (behind l)) broken

unfoldable pub to_come : Scan → List ℕ → ReadText
to_come Begin l = recorded l
to_come (Digit a) l = second a l
to_come (Symbol v) l = behind l
to_come Line l = recorded l
to_come Space l = symbols_in l

-- with the symbol that the text ends with now
unfoldable pub with_last : Scan → ReadText → ReadText
with_last Begin r = r
with_last (Digit a) r = r
with_last (Symbol v) r = ahead v r
with_last Line r = r
with_last Space r = r

-- ---- the input ends

pub come_end : (s : Scan) → to_come s [] ≡ record { symbols = []; kept = input_may_end s }
unfolding to_come recorded symbols_in second behind ended broken
come_end Begin = refl
come_end (Digit a) = refl
come_end (Symbol v) = refl
come_end Line = refl
come_end Space = refl

-- ---- a character

symbol_digits : (a b : ℕ) (r : ReadText) → symbol_then a b r ≡ cond (is_hex a) (cond (is_hex b) (ahead (octet_of a b) r) broken) broken
unfolding symbol_then
symbol_digits a b r = go (is_hex a)
  where
    go : (x : Bool)
        → cond (x && is_hex b) (ahead (octet_of a b) r) broken ≡ cond x (cond (is_hex b) (ahead (octet_of a b) r) broken) broken
    go true = refl
    go false = refl

none_hex : (x : Bool) → broken ≡ cond x broken broken
none_hex true = refl
none_hex false = refl

symbols_digit : (a : ℕ) (l : List ℕ) → symbols_in (a ∷ l) ≡ cond (is_hex a) (second a l) broken
unfolding symbols_in second behind
symbols_digit a [] = none_hex (is_hex a)
symbols_digit a (b ∷ []) = symbol_digits a b ended
symbols_digit a (b ∷ c ∷ l) = symbol_digits a b (gap_then c l (symbols_in l))

-- the text goes on as after this character
abbrev pub come : Option Scan → List ℕ → ReadText
come (Some s) l = with_last s (to_come s l)
come None l = broken

come_first : (c : ℕ) (l : List ℕ) → symbols_in (c ∷ l) ≡ come (first_digit c) l
unfolding first_digit to_come with_last
come_first c l = rw symbols_digit (go (is_hex c))
  where
    go : (x : Bool) → cond x (second c l) broken ≡ come (cond x (Some (Digit c)) None) l
    go true = refl
    go false = refl

come_second : (a c : ℕ) (l : List ℕ) → second a (c ∷ l) ≡ come (second_digit a c) l
unfolding second_digit to_come with_last second
come_second a c l = go (is_hex c)
  where
    go : (x : Bool) → cond x (ahead (octet_of a c) (behind l)) broken ≡ come (cond x (Some (Symbol (octet_of a c))) None) l
    go true = refl
    go false = refl

come_gap : (c : ℕ) (l : List ℕ) → behind (c ∷ l) ≡ come (gap c) l
unfolding gap to_come with_last behind gap_then recorded
come_gap c l = go (eqb c 0x0A) (eqb c 0x20) l
  where
    go : (x y : Bool) (l : List ℕ)
        → cond (x && is_empty l) ended (cond (x || y) (symbols_in l) broken) ≡ come (cond x (Some Line) (cond y (Some Space) None)) l
    go true y [] = refl
    go true y (c ∷ l) = refl
    go false true l = refl
    go false false l = refl

pub come_on : (s : Scan) (c : ℕ) (l : List ℕ) → to_come s (c ∷ l) ≡ come (form_after s c) l
unfolding to_come with_last form_after recorded
come_on Begin c l = come_first c l
come_on (Digit a) c l = come_second a c l
come_on (Symbol v) c l = come_gap c l
come_on Line c l = come_first c l
come_on Space c l = come_first c l
