-- What a record begins with, in 01's words and by no walk over it (01, 'Line reader').
-- Assumes nothing.
use Rattle.std.specs.Prelude.{◌≡◌, List, [], ◌++◌, ℕ, ◌+◌, ◌<◌, ◌≤◌, length, take}
use Rattle.line.specs.Kind.{sop_kinds}
use Rattle.line.specs.Crc.{with_crc}
use Rattle.line.specs.Frame.{Frame, Whole, Shape, Shaped, drawn, sealed, symbols_of}

-- l begins some frame, CRC values disregarded
pub record Begins (l : List ℕ) : Type 0 where
  pub shape : Shape
  pub shaped : Shaped shape
  pub rest : List ℕ
  pub is : l ++ rest ≡ drawn shape

-- l begins some frame and is not all of it
pub record Cut (l : List ℕ) : Type 0 where
  pub begins : Begins l
  pub more : begins.rest ≡ [] → ⊥

-- place is the length of the longest beginning of the record that begins some frame
pub record Longest (line : List ℕ) (place : ℕ) : Type 0 where
  pub within : place ≤ length line
  pub begins : Begins (take place line)
  pub most : (n : ℕ) → n ≤ length line → Begins (take n line) → n ≤ place

-- a whole frame begins the record; s is its kind and its octets with CRC
pub record Intact (line : List ℕ) (s : Shape) : Type 0 where
  pub frame : Frame
  pub whole : Whole frame
  pub seals : s ≡ sealed frame
  pub rest : List ℕ
  pub is : line ≡ symbols_of frame ++ rest

-- a whole shape begins the record, and its CRC is not that of its octets; place is the number of symbols before EOP
pub record Spoilt (line : List ℕ) (place : ℕ) : Type 0 where
  pub shape : Shape
  pub shaped : Shaped shape
  pub sop : shape.kind < sop_kinds
  pub wrong : (l : List ℕ) → shape.octets ≡ with_crc l → ⊥
  pub rest : List ℕ
  pub is : line ≡ drawn shape ++ rest
  pub before_end : place + 1 ≡ length (drawn shape)
