-- The text of a record: symbols of two hex digits, one space or one LF between two of them, perhaps one LF after the last.
-- Assumes nothing.
use Rattle.std.specs.Prelude.{Bool, true, false, cond, ◌&&◌, ◌||◌, List, [], ◌∷◌, ℕ, eqb}
use Rattle.text.specs.Hex.{is_hex, octet_of}

-- the symbols before the form breaks, and whether it is kept to the end
pub record ReadText : Type 0 where
  pub symbols : List ℕ
  pub kept : Bool

unfoldable pub ended : ReadText
ended = record { symbols = []; kept = true }

unfoldable pub broken : ReadText
broken = record { symbols = []; kept = false }

-- two characters, and what is behind them
unfoldable pub symbol_then : ℕ → ℕ → ReadText → ReadText
symbol_then a b r = cond (is_hex a && is_hex b) (record { symbols = octet_of a b ∷ r.symbols; kept = r.kept }) broken

abbrev pub is_empty : List ℕ → Bool
is_empty [] = true
is_empty (c ∷ l) = false

-- a character behind a symbol, and what is behind it: r, if that begins with a symbol
unfoldable pub gap_then : ℕ → List ℕ → ReadText → ReadText
gap_then c l r = cond (eqb c 0x0A && is_empty l) ended (cond (eqb c 0x0A || eqb c 0x20) r broken)

-- one symbol or more
unfoldable pub symbols_in : List ℕ → ReadText
symbols_in [] = broken
symbols_in (a ∷ []) = broken
symbols_in (a ∷ b ∷ []) = symbol_then a b ended
symbols_in (a ∷ b ∷ c ∷ l) = symbol_then a b (gap_then c l (symbols_in l))

unfoldable pub recorded : List ℕ → ReadText
recorded [] = ended
recorded (c ∷ l) = symbols_in (c ∷ l)
