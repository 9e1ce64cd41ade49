-- Frames: a kind and the octets of its message, and the symbols that they are on the line (01, 'Line code (PD)').
-- Assumes nothing.
use Rattle.std.specs.Prelude.{◌≡◌, cond, List, [], ◌∷◌, ◌++◌, ℕ, ◌<◌, ◌≤◌, length}
use Rattle.line.specs.Symbol.{eop, encoded}
use Rattle.line.specs.Kind.{kinds, set_of, sop_kinds, carries}
use Rattle.line.specs.Crc.{with_crc}

pub record Frame : Type 0 where
  pub kind : ℕ
  pub octets : List ℕ

-- numbers that an octet can hold
abbrev pub Octets : List ℕ → Type 0
Octets [] = Unit {0}
Octets (b ∷ bs) = (b < 256) × Octets bs

-- the frames that the line carries: a message of 2 to 30 octets on an SOP kind, or a set alone
pub data Whole (f : Frame) : Type 0 where
  message : f.kind < sop_kinds → Octets f.octets → 2 ≤ length f.octets → length f.octets ≤ 30 → Whole f
  alone : sop_kinds ≤ f.kind → f.kind < kinds → f.octets ≡ [] → Whole f

-- a frame's shape: the octets with the CRC's four, whatever these are
pub record Shape : Type 0 where
  pub kind : ℕ
  pub octets : List ℕ

-- the shapes that frames have, CRC values disregarded
pub data Shaped (s : Shape) : Type 0 where
  message : s.kind < sop_kinds → Octets s.octets → 6 ≤ length s.octets → length s.octets ≤ 34 → Shaped s
  alone : sop_kinds ≤ s.kind → s.kind < kinds → s.octets ≡ [] → Shaped s

-- the ordered set, then of an SOP kind each octet and EOP
unfoldable pub drawn : Shape → List ℕ
drawn s = set_of s.kind ++ cond (carries s.kind) (encoded s.octets ++ (eop ∷ [])) []

-- a message is sent with its CRC
unfoldable pub sealed : Frame → Shape
sealed f = record { kind = f.kind; octets = cond (carries f.kind) (with_crc f.octets) [] }

-- the symbols of a frame
unfoldable pub symbols_of : Frame → List ℕ
symbols_of f = drawn (sealed f)

-- a record: the symbols of frames, joined
unfoldable pub joined : List Frame → List ℕ
joined [] = []
joined (f ∷ fs) = symbols_of f ++ joined fs

abbrev pub AllWhole : List Frame → Type 0
AllWhole [] = Unit {0}
AllWhole (f ∷ fs) = Whole f × AllWhole fs
