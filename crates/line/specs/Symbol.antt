-- Line symbols: one octet 0 to 31 each (01, 'Line code (PD)', first paragraph).
-- Assumes nothing.
use Rattle.std.specs.Prelude.{Bool, cond, List, [], ◌∷◌, ℕ, suc, ◌+◌, ◌*◌, ◌/◌, ◌%◌, ltb, eqb, get_or}

-- the symbols of the nibbles 0 to F
abbrev pub nibble_symbols : List ℕ
nibble_symbols =
    0x1E ∷ 0x09 ∷ 0x14 ∷ 0x15 ∷ 0x0A ∷ 0x0B ∷ 0x0E ∷ 0x0F ∷ 0x12 ∷ 0x13 ∷ 0x16 ∷ 0x17 ∷ 0x1A ∷ 0x1B ∷ 0x1C ∷ 0x1D ∷ []

-- the K-codes
abbrev pub sync_1 : ℕ
sync_1 = 0x18

abbrev pub sync_2 : ℕ
sync_2 = 0x11

abbrev pub sync_3 : ℕ
sync_3 = 0x06

abbrev pub rst_1 : ℕ
rst_1 = 0x07

abbrev pub rst_2 : ℕ
rst_2 = 0x19

abbrev pub eop : ℕ
eop = 0x0D

-- the symbol of a nibble
unfoldable pub symbol_of : ℕ → ℕ
symbol_of n = get_or nibble_symbols n 0

-- where x stands in a list; the list's length where it does not stand there
unfoldable pub place_of : ℕ → List ℕ → ℕ
place_of x [] = 0
place_of x (y ∷ ys) = cond (eqb x y) 0 (suc (place_of x ys))

-- the nibble that a symbol stands for; 16 where it stands for none
unfoldable pub nibble_of : ℕ → ℕ
nibble_of s = place_of s nibble_symbols

unfoldable pub is_nibble : ℕ → Bool
is_nibble s = ltb (nibble_of s) 16

-- each octet low nibble first
unfoldable pub encoded : List ℕ → List ℕ
encoded [] = []
encoded (b ∷ bs) = symbol_of (b % 16) ∷ symbol_of (b / 16) ∷ encoded bs

-- the octets of pairs of nibbles, low nibble first
unfoldable pub octets_of : List ℕ → List ℕ
octets_of [] = []
octets_of (s ∷ []) = []
octets_of (s ∷ t ∷ l) = (nibble_of s + 16 * nibble_of t) ∷ octets_of l
