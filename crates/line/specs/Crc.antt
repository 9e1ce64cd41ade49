-- CRC-32, bit by bit: reflected polynomial EDB88320h, start FFFFFFFFh, final complement (01, 'Line code (PD)').
-- Assumes nothing.
use Rattle.std.specs.Prelude.{◌≡◌, Bool, ◌&&◌, List, [], ◌∷◌, ◌++◌, ℕ, zero, suc, ◌+◌, ◌*◌, ◌-◌, ◌/◌, ◌%◌, leb, eqb, length, take, drop, get_or}
use Rattle.std.specs.Int.Bits.{bit_xor}

-- the reflected polynomial where the bit that leaves is 1, and nothing where it is 0
unfoldable pub poly : ℕ → ℕ
poly zero = 0
poly (suc n) = 0xEDB8_8320

-- one bit: the register moves down by one, and the bit that leaves brings in the polynomial
unfoldable pub crc_bit : ℕ → ℕ
crc_bit c = bit_xor (c / 2) (poly (c % 2))

-- n bits
unfoldable pub crc_bits : ℕ → ℕ → ℕ
crc_bits zero c = c
crc_bits (suc n) c = crc_bit (crc_bits n c)

-- one octet
unfoldable pub crc_octet : ℕ → ℕ → ℕ
crc_octet c b = crc_bits 8 (bit_xor c b)

-- the register after the octets
unfoldable pub crc_from : ℕ → List ℕ → ℕ
crc_from c [] = c
crc_from c (b ∷ bs) = crc_from (crc_octet c b) bs

unfoldable pub crc_of : List ℕ → ℕ
crc_of l = 0xFFFF_FFFF - crc_from 0xFFFF_FFFF l

-- the four octets of a 32-bit number, the least significant first
unfoldable pub four_octets : ℕ → List ℕ
four_octets n = n % 256 ∷ n / 256 % 256 ∷ n / 65536 % 256 ∷ n / 16777216 % 256 ∷ []

-- octets with their CRC
unfoldable pub with_crc : List ℕ → List ℕ
with_crc l = l ++ four_octets (crc_of l)

-- the number of four octets, the least significant first
unfoldable pub number : List ℕ → ℕ
number l = get_or l 0 0 + 256 * get_or l 1 0 + 65536 * get_or l 2 0 + 16777216 * get_or l 3 0

-- the last four octets are the CRC of the others
unfoldable pub crc_right : List ℕ → Bool
crc_right m = leb 4 (length m) && eqb (crc_of (take (length m - 4) m)) (number (drop (length m - 4) m))

-- ---- what the functions promise

-- r is the CRC of the octets l
abbrev pub IsCrc : List ℕ → ℕ → Type 0
IsCrc l r = r ≡ crc_of l

-- r says whether the octets m end with the CRC of the others
abbrev pub SaysCrcRight : List ℕ → Bool → Type 0
SaysCrcRight m r = r ≡ crc_right m
