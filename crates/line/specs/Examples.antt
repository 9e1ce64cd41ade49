-- Worked examples of the line code; proofs/Worked.antt computes them.
-- Assumes nothing.
use Rattle.std.specs.Prelude.{◌≡◌, List, [], ◌∷◌, ◌++◌, true, false, ℕ, ◌<◌, length, get_or, take, drop, replicate, Result}
use Rattle.std.proofs.Math.Option.{some}
use Rattle.line.specs.declared.read.FoundFrame.{FoundFrame}
use Rattle.line.specs.declared.read.ReadError.{ReadError}
use Rattle.line.specs.Symbol.{eop, nibble_of}
use Rattle.line.specs.Kind.{ordered_sets, set_of}
use Rattle.line.specs.Crc.{crc_of}
use Rattle.line.specs.Frame.{Frame, symbols_of}
use Rattle.line.specs.Refusal.{first_no}
use Rattle.line.specs.Write.{writer_rows}
use Rattle.line.specs.Read.{found, agreeing, set_at, first}
use Rattle.line.specs.Reader.{Said, was_read, said_no, no_at, said, says_of, Reads}

-- what the reader says of a record, given room
abbrev pub reading_of : List ℕ → Said
reading_of line = says_of 0 (first line)

-- SOP and n nibbles 0
abbrev pub started : ℕ → List ℕ
started n = set_of 0 ++ replicate n 0x1E

-- the message of a tank called "lá!": its letter's second octet is A1
abbrev pub tank : Frame
tank = record { kind = 0; octets = 0x4F ∷ 0x10 ∷ 0x6C ∷ 0xC3 ∷ 0xA1 ∷ 0x21 ∷ [] }

-- the nibbles of the symbols 0 to 31, 16 where there is none
abbrev pub nibbles_of_symbols : List ℕ
nibbles_of_symbols =
    16 ∷ 16 ∷ 16 ∷ 16 ∷ 16 ∷ 16 ∷ 16 ∷ 16 ∷
    16 ∷ 0x1 ∷ 0x4 ∷ 0x5 ∷ 16 ∷ 16 ∷ 0x6 ∷ 0x7 ∷
    16 ∷ 16 ∷ 0x8 ∷ 0x9 ∷ 0x2 ∷ 0x3 ∷ 0xA ∷ 0xB ∷
    16 ∷ 16 ∷ 0xC ∷ 0xD ∷ 0xE ∷ 0xF ∷ 0x0 ∷ 16 ∷ []

pub record Examples : Type 0 where
  pub every_octet : (s : ℕ) → s < 256 → nibble_of s ≡ get_or nibbles_of_symbols s 16
  pub nothing : reading_of [] ≡ no_at 14 0
  pub three_symbols : reading_of (0x18 ∷ 0x18 ∷ 0x11 ∷ []) ≡ no_at 14 3
  pub no_set : reading_of (0x18 ∷ 0x18 ∷ 0x07 ∷ 0x07 ∷ []) ≡ no_at 13 0
  pub several : agreeing 0 ordered_sets (0x18 ∷ 0x18 ∷ 0x06 ∷ 0x11 ∷ []) ≡ 0 ∷ 1 ∷ 4 ∷ []
  pub doubtful : reading_of (0x18 ∷ 0x18 ∷ 0x06 ∷ 0x11 ∷ []) ≡ no_at 13 0
  pub two_changed : set_at (0x18 ∷ 0x06 ∷ 0x06 ∷ 0x11 ∷ []) ≡ found (record { kind = 4; exact = false })
  pub reset : reading_of (0x07 ∷ 0x07 ∷ 0x07 ∷ 0x19 ∷ []) ≡ was_read 5 true 0 4
  pub near_reset : reading_of (0x07 ∷ 0xA1 ∷ 0x07 ∷ 0x19 ∷ []) ≡ was_read 5 false 0 4
  pub near_sop : reading_of (0x18 ∷ 0x18 ∷ 0x18 ∷ 0x0D ∷ replicate 68 0x1E) ≡ no_at 14 72
  pub eop_after_half : reading_of (started 13 ++ (eop ∷ [])) ≡ no_at 13 17
  pub eop_too_soon : reading_of (started 10 ++ (eop ∷ [])) ≡ no_at 13 14
  pub octet_35 : reading_of (started 69) ≡ no_at 13 72
  pub cut_off : reading_of (started 68) ≡ no_at 14 72
  pub no_symbol : reading_of (started 1 ++ (32 ∷ [])) ≡ no_at 13 5
  pub wrong_crc : reading_of (started 12 ++ (eop ∷ [])) ≡ no_at 15 16
  pub room_72 : first_no (writer_rows tank 72) ≡ some 12
  pub room_33 : (line after : List ℕ) (at : ℕ) (r : Result FoundFrame ReadError) → Reads line at (replicate 33 0) r after → said r ≡ said_no 12
  pub check_value : crc_of (0x31 ∷ 0x32 ∷ 0x33 ∷ 0x34 ∷ 0x35 ∷ 0x36 ∷ 0x37 ∷ 0x38 ∷ 0x39 ∷ []) ≡ 0xCBF4_3926
  pub tank_long : length (symbols_of tank) ≡ 25
  pub tank_set : take 4 (symbols_of tank) ≡ 0x18 ∷ 0x18 ∷ 0x18 ∷ 0x11 ∷ []
  pub tank_end : drop 24 (symbols_of tank) ≡ 0x0D ∷ []
