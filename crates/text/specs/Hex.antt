-- Hex of two capital digits.
-- Assumes nothing.
use Rattle.std.specs.Prelude.{◌≡◌, Bool, cond, ◌&&◌, ◌||◌, List, [], ◌∷◌, ℕ, ◌+◌, ◌*◌, ◌-◌, ◌/◌, ◌%◌, ltb, leb}

abbrev pub within : ℕ → ℕ → ℕ → Bool
within lo hi c = leb lo c && leb c hi

-- 0 to 9, A to F
unfoldable pub is_hex : ℕ → Bool
is_hex c = within 0x30 0x39 c || within 0x41 0x46 c

-- the value of a hex digit; 0 of any other character
unfoldable pub hex_value : ℕ → ℕ
hex_value c = cond (within 0x30 0x39 c) (c - 48) (cond (within 0x41 0x46 c) (c - 55) 0)

-- the octet that two digits write
unfoldable pub octet_of : ℕ → ℕ → ℕ
octet_of a b = 16 * hex_value a + hex_value b

-- what is answered of a character, and of two
abbrev pub TellsHex : ℕ → Bool → Type 0
TellsHex c r = r ≡ is_hex c

abbrev pub MakesOctet : ℕ → ℕ → ℕ → Type 0
MakesOctet a b r = r ≡ octet_of a b

-- the digit of a value, and the two of an octet
unfoldable pub digit_of : ℕ → ℕ
digit_of n = cond (ltb n 10) (48 + n) (55 + n)

unfoldable pub hex_of : ℕ → List ℕ
hex_of b = digit_of (b / 16) ∷ digit_of (b % 16) ∷ []
