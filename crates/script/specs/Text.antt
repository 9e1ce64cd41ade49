-- Words of a line: an octet, masks, decimals, octets with a space before each.
-- Assumes nothing.
use Rattle.std.specs.Prelude.{Bool, true, false, cond, ◌&&◌, List, [], ◌∷◌, ℕ, suc, ◌+◌, eqb, length, get_or}
use Rattle.text.specs.Hex.{within, is_hex, octet_of}

-- the octet that two digits write, from i on
unfoldable pub octet_at : ℕ → List ℕ → ℕ
octet_at i l = octet_of (get_or l i 0) (get_or l (i + 1) 0)

-- ---- a mask stands for lines of its length: # for any hex digit, each other character for itself

unfoldable pub suits : ℕ → ℕ → Bool
suits m c = cond (eqb m 0x23) (is_hex c) (eqb m c)

unfoldable pub fits : List ℕ → List ℕ → Bool
fits [] [] = true
fits [] (c ∷ l) = false
fits (m ∷ ms) [] = false
fits (m ∷ ms) (c ∷ l) = suits m c && fits ms l

-- ---- decimals of 1 to 7 digits

unfoldable pub is_digit : ℕ → Bool
is_digit c = within 0x30 0x39 c

unfoldable pub all_digits : List ℕ → Bool
all_digits [] = true
all_digits (c ∷ l) = is_digit c && all_digits l

unfoldable pub is_decimal : List ℕ → Bool
is_decimal l = within 1 7 (length l) && all_digits l

-- how many digits a line begins with
unfoldable pub digits_in : List ℕ → ℕ
digits_in [] = 0
digits_in (c ∷ l) = cond (is_digit c) (suc (digits_in l)) 0

-- ---- octets, a space before each

unfoldable pub is_octet : ℕ → ℕ → ℕ → Bool
is_octet s a b = eqb s 0x20 && (is_hex a && is_hex b)

unfoldable pub are_octets : List ℕ → Bool
are_octets [] = true
are_octets (s ∷ []) = false
are_octets (s ∷ a ∷ []) = false
are_octets (s ∷ a ∷ b ∷ l) = is_octet s a b && are_octets l

unfoldable pub octets_in : List ℕ → List ℕ
octets_in [] = []
octets_in (s ∷ []) = []
octets_in (s ∷ a ∷ []) = []
octets_in (s ∷ a ∷ b ∷ l) = octet_of a b ∷ octets_in l
