-- Message headers: those the device builds, and the fields of those it hears (01, 'Line code (PD)', header).
-- Assumes nothing.
use Rattle.std.specs.Prelude.{Bool, cond, ◌&&◌, List, [], ◌∷◌, ℕ, ◌+◌, ◌*◌, ◌/◌, ◌%◌, eqb, length, get_or}
use Rattle.line.specs.Frame.{Frame}

abbrev pub GoodCRC : ℕ
GoodCRC = 1

abbrev pub Soft_Reset : ℕ
Soft_Reset = 0xD

-- ---- built: type, roles and revision of Switches1 (power 7, revision 6:5, data 4), MessageID, count 0

-- a role bit is 0 on kinds 1 to 4
abbrev pub role : ℕ → ℕ → ℕ
role kind bit = cond (eqb kind 0) bit 0

unfoldable pub header : ℕ → ℕ → ℕ → ℕ → ℕ
header type kind sw id =
    type + (32 * role kind (sw / 16 % 2) + (64 * (sw / 32 % 4) + (256 * role kind (sw / 128 % 2) + 512 * id)))

-- low octet first
unfoldable pub two_octets : ℕ → List ℕ
two_octets h = h % 256 ∷ h / 256 % 256 ∷ []

-- a message that is a header alone
abbrev pub control : ℕ → ℕ → ℕ → ℕ → Frame
control type kind sw id = record { kind = kind; octets = two_octets (header type kind sw id) }

-- ---- heard: bits 4 and 15 are disregarded

abbrev pub heard_header : List ℕ → ℕ
heard_header m = get_or m 0 0 + 256 * get_or m 1 0

abbrev pub type_of : List ℕ → ℕ
type_of m = heard_header m % 16

abbrev pub message_id : List ℕ → ℕ
message_id m = heard_header m / 512 % 8

abbrev pub objects : List ℕ → ℕ
objects m = heard_header m / 4096 % 8

-- a packet, with its CRC, that is a control message of this type: no data objects, two octets and the CRC's four
unfoldable pub is_control : ℕ → List ℕ → Bool
is_control type m = eqb (type_of m) type && (eqb (objects m) 0 && eqb (length m) 6)
