-- The form of a record's text, by its last character; none where it breaks.
-- Assumes nothing.
use Rattle.std.specs.Prelude.{Bool, true, false, cond, ℕ, eqb, Option, Some, None}
use Rattle.text.specs.Hex.{is_hex, octet_of}
use Rattle.listing.specs.declared.form.Scan.{Scan}
use Rattle.listing.specs.declared.form.Scan.TheVariants.{Begin, Digit, Symbol, Line, Space}

unfoldable pub first_digit : ℕ → Option Scan
first_digit c = cond (is_hex c) (Some (Digit c)) None

unfoldable pub second_digit : ℕ → ℕ → Option Scan
second_digit a c = cond (is_hex c) (Some (Symbol (octet_of a c))) None

unfoldable pub gap : ℕ → Option Scan
gap c = cond (eqb c 0x0A) (Some Line) (cond (eqb c 0x20) (Some Space) None)

unfoldable pub form_after : Scan → ℕ → Option Scan
form_after Begin c = first_digit c
form_after (Digit a) c = second_digit a c
form_after (Symbol v) c = gap c
form_after Line c = first_digit c
form_after Space c = first_digit c

-- whether the input may end there
abbrev pub input_may_end : Scan → Bool
input_may_end Begin = true
input_may_end (Digit a) = false
input_may_end (Symbol v) = true
input_may_end Line = true
input_may_end Space = false
