-- The register of a CRC, a bit or an octet at a time.
-- Assumes nothing.
use mathlib.Core.Path.{◌≡◌, refl, sym, ap, ◌∙◌}
use mathlib.Core.List.{List, [], ◌∷◌}
use Prim.Native.Nat.{ℕ, zero, suc, ◌+◌, ◌/◌, ◌%◌}
use native.Mathlib.Numerals.{add-one}
use lib.Bits.{bit_xor, bit_and, xor_zero_r, and_mask}
use Rattle.std.specs.Prelude.{fold}
use Rattle.line.specs.Crc.{poly, crc_bit, crc_bits, crc_octet, crc_from}

-- the bit that leaves is 0
pub even : (c : ℕ) → bit_and c 1 ≡ 0 → c / 2 ≡ crc_bit c
unfolding crc_bit poly
even c h = sym (ap (λ (n : ℕ). bit_xor (c / 2) (poly n)) (sym (and_mask c 1) ∙ h) ∙ xor_zero_r (c / 2))

some_poly : (n : ℕ) → (n ≡ 0 → ⊥) → poly n ≡ 0xEDB8_8320
unfolding poly
some_poly zero h = absurd (h refl)
some_poly (suc n) h = refl

-- the bit that leaves is 1
pub odd : (c : ℕ) → (bit_and c 1 ≡ 0 → ⊥) → bit_xor (c / 2) 0xEDB8_8320 ≡ crc_bit c
unfolding crc_bit
odd c h = ap (λ (n : ℕ). bit_xor (c / 2) n) (sym (some_poly (c % 2) (λ e. h (and_mask c 1 ∙ e))))

-- one bit more
pub turn : (n x₀ x r : ℕ) → x ≡ crc_bits n x₀ → r ≡ crc_bit x → r ≡ crc_bits (n + 1) x₀
unfolding crc_bits
turn n x₀ x r h e = rw add-one (e ∙ ap crc_bit h)

-- after the eighth bit
pub eighth : (n c b x : ℕ) → x ≡ crc_bits n (bit_xor c b) → n ≡ 8 → x ≡ crc_octet c b
unfolding crc_octet
eighth n c b x h e = h ∙ ap (λ (k : ℕ). crc_bits k (bit_xor c b)) e

-- octet after octet
pub folded : (c : ℕ) (l : List ℕ) → fold crc_octet c l ≡ crc_from c l
unfolding crc_from
folded c [] = refl
folded c (b ∷ bs) = folded (crc_octet c b) bs
