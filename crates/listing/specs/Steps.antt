-- An input, character by character: what is held of it, what each character prints, and what its end prints.
-- Assumes nothing.
use Rattle.std.specs.Prelude.{Option, Some, None, List, [], ◌∷◌, ◌++◌, ℕ, ◌+◌, length}
use Rattle.line.specs.Read.{First, frame, wrong_crc, too_short, no_frame, first}
use Rattle.listing.specs.declared.form.Scan.{Scan}
use Rattle.listing.specs.declared.form.Scan.TheVariants.{Begin, Digit, Symbol, Line, Space}
use Rattle.listing.specs.Lines.{frame_text, no_text, bad_octet_text}
use Rattle.listing.specs.Listed.{short_text}
use Rattle.listing.specs.Scans.{form_after, input_may_end}

-- the form so far, the place of the symbols that no frame has yet, and these
pub record ListingState : Type 0 where
  pub scan : Scan
  pub before : ℕ
  pub symbols : List ℕ

unfoldable pub empty_state : ListingState
empty_state = record { scan = Begin; before = 0; symbols = [] }

-- a character prints a text, and the listing goes on or stops
pub data Step : Type 0 where
  goes : List ℕ → ListingState → Step
  stops : List ℕ → Step

-- by what the symbols are now, the last one among them
unfoldable pub on_symbol : Scan → ℕ → List ℕ → First → Step
on_symbol s p w (frame r) = goes (frame_text p r) (record { scan = s; before = p + length w; symbols = [] })
on_symbol s p w (no_frame q) = stops (no_text 13 (p + q))
on_symbol s p w (too_short q) = goes [] (record { scan = s; before = p; symbols = w })
on_symbol s p w (wrong_crc q) = stops (no_text 15 (p + q))

-- by what the text ends with now; where its form breaks the next symbol is out of form
unfoldable pub step_to : Option Scan → ℕ → List ℕ → Step
step_to (Some Begin) p w = goes [] (record { scan = Begin; before = p; symbols = w })
step_to (Some (Digit a)) p w = goes [] (record { scan = Digit a; before = p; symbols = w })
step_to (Some (Symbol v)) p w = on_symbol (Symbol v) p (w ++ (v ∷ [])) (first (w ++ (v ∷ [])))
step_to (Some Line) p w = goes [] (record { scan = Line; before = p; symbols = w })
step_to (Some Space) p w = goes [] (record { scan = Space; before = p; symbols = w })
step_to None p w = stops (bad_octet_text (p + length w + 1))

unfoldable pub character_step : ListingState → ℕ → Step
character_step s c = step_to (form_after s.scan c) s.before s.symbols

-- the input ends: p is the place of the symbols that no frame has, n their number
unfoldable pub end_text : Scan → ℕ → ℕ → List ℕ
end_text s p n = short_text (input_may_end s) p n

-- ---- all that an input prints, from a state on

unfoldable pub then_all : Step → (ListingState → List ℕ) → List ℕ
then_all (goes t s) rest = t ++ rest s
then_all (stops t) rest = t

unfoldable pub printed_from : ListingState → List ℕ → List ℕ
printed_from s [] = end_text s.scan s.before (length s.symbols)
printed_from s (c ∷ input) = then_all (character_step s c) (λ (n : ListingState). printed_from n input)
