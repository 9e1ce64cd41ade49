-- The stored registers and their bits (01, 'Registers'; names as in data sheet 004).
-- Assumes nothing.
use Rattle.std.specs.Prelude.{Bool, not, ◌&&◌, ◌||◌, List, [], ◌∷◌, map, ℕ, ◌-◌, leb, eqb, get_or, set}
use Rattle.std.specs.Int.Bits.{bit_and}

-- ---- the table: address, reset value, stored bits

pub record Register : Type 0 where
  pub address : ℕ
  pub reset : ℕ
  pub stored : ℕ

abbrev pub row : ℕ → ℕ → ℕ → Register
row a r s = record { address = a; reset = r; stored = s }

abbrev pub registers : List Register
registers =
    row 0x02 0x03 0xFF  -- Switches0
    ∷ row 0x03 0x20 0xF7  -- Switches1
    ∷ row 0x04 0x31 0x7F  -- Measure
    ∷ row 0x05 0x60 0xFF  -- Slice
    ∷ row 0x06 0x24 0x2E  -- Control0
    ∷ row 0x07 0x00 0x73  -- Control1
    ∷ row 0x08 0x02 0xEF  -- Control2
    ∷ row 0x09 0x06 0x3F  -- Control3
    ∷ row 0x0A 0x00 0xFF  -- Mask
    ∷ row 0x0B 0x01 0x0F  -- Power
    ∷ row 0x0C 0x00 0x00  -- Reset
    ∷ row 0x0D 0x0F 0x0F  -- OCPreg
    ∷ row 0x0E 0x00 0xFF  -- Maska
    ∷ row 0x0F 0x00 0x01  -- Maskb
    ∷ row 0x10 0x00 0x01  -- Control4
    ∷ []

abbrev pub resets : List ℕ
resets = map (λ r. r.reset) registers

abbrev pub stored_bits : List ℕ
stored_bits = map (λ r. r.stored) registers

-- the cells hold the registers 02 to 10 in the order of their addresses
unfoldable pub cell : ℕ → List ℕ → ℕ
cell a cells = get_or cells (a - 2) 0

-- other bits are dropped on a write
unfoldable pub stored : ℕ → ℕ → List ℕ → List ℕ
stored a v cells = set cells (a - 2) (bit_and v (get_or stored_bits (a - 2) 0))

-- ---- addresses

abbrev pub device_id : ℕ
device_id = 0x01

abbrev pub switches0 : ℕ
switches0 = 0x02

abbrev pub switches1 : ℕ
switches1 = 0x03

abbrev pub measure : ℕ
measure = 0x04

abbrev pub control0 : ℕ
control0 = 0x06

abbrev pub control1 : ℕ
control1 = 0x07

abbrev pub control3 : ℕ
control3 = 0x09

abbrev pub mask : ℕ
mask = 0x0A

abbrev pub power : ℕ
power = 0x0B

abbrev pub reset : ℕ
reset = 0x0C

abbrev pub maska : ℕ
maska = 0x0E

abbrev pub maskb : ℕ
maskb = 0x0F

abbrev pub status0a : ℕ
status0a = 0x3C

abbrev pub status1a : ℕ
status1a = 0x3D

abbrev pub interrupta : ℕ
interrupta = 0x3E

abbrev pub interruptb : ℕ
interruptb = 0x3F

abbrev pub status0 : ℕ
status0 = 0x40

abbrev pub status1 : ℕ
status1 = 0x41

abbrev pub interrupt : ℕ
interrupt = 0x42

abbrev pub fifos : ℕ
fifos = 0x43

abbrev pub between : ℕ → ℕ → ℕ → Bool
between lo hi a = leb lo a && leb a hi

unfoldable pub is_stored : ℕ → Bool
is_stored a = between 0x02 0x10 a

-- 01 and 3C to 42
unfoldable pub read_only : ℕ → Bool
read_only a = eqb a device_id || between status0a interrupt a

-- all other addresses don't exist
unfoldable pub exists : ℕ → Bool
exists a = is_stored a || (read_only a || eqb a fifos)

-- ---- bits

-- some bit of m is 1 in x
unfoldable pub has : ℕ → ℕ → Bool
has m x = not (eqb (bit_and x m) 0)

-- Switches0
abbrev pub MEAS_CC2 : ℕ
MEAS_CC2 = 0x08

abbrev pub MEAS_CC1 : ℕ
MEAS_CC1 = 0x04

-- Switches1
abbrev pub AUTO_CRC : ℕ
AUTO_CRC = 0x04

abbrev pub TXCC : ℕ
TXCC = 0x03

-- Measure
abbrev pub MEAS_VBUS : ℕ
MEAS_VBUS = 0x40

abbrev pub MDAC : ℕ
MDAC = 0x3F

-- Control0
abbrev pub TX_FLUSH : ℕ
TX_FLUSH = 0x40

abbrev pub INT_MASK : ℕ
INT_MASK = 0x20

abbrev pub AUTO_PRE : ℕ
AUTO_PRE = 0x02

abbrev pub TX_START : ℕ
TX_START = 0x01

-- Control1
abbrev pub ENSOP2DB : ℕ
ENSOP2DB = 0x40

abbrev pub ENSOP1DB : ℕ
ENSOP1DB = 0x20

abbrev pub RX_FLUSH : ℕ
RX_FLUSH = 0x04

abbrev pub ENSOP2 : ℕ
ENSOP2 = 0x02

abbrev pub ENSOP1 : ℕ
ENSOP1 = 0x01

-- Control3
abbrev pub SEND_HARD_RESET : ℕ
SEND_HARD_RESET = 0x40

abbrev pub AUTO_HARDRESET : ℕ
AUTO_HARDRESET = 0x10

abbrev pub AUTO_SOFTRESET : ℕ
AUTO_SOFTRESET = 0x08

abbrev pub AUTO_RETRY : ℕ
AUTO_RETRY = 0x01

-- Power
abbrev pub PWR2 : ℕ
PWR2 = 0x04

-- Reset
abbrev pub PD_RESET : ℕ
PD_RESET = 0x02

abbrev pub SW_RES : ℕ
SW_RES = 0x01
