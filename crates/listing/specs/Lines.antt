-- The lines that are printed: one for each frame, and a last one where the record does not go on with a frame.
-- Assumes nothing.
use Rattle.std.specs.Prelude.{Bool, true, false, List, [], ◌∷◌, ◌++◌, ℕ}
use Rattle.line.specs.Read.{ReadFrame}
use Rattle.text.specs.Ascii.{text}
use Rattle.text.specs.Put.{decimal_of, octets_text}

-- a place or a number below 2 ^ 64
unfoldable pub place_text : ℕ → List ℕ
place_text p = decimal_of 20 p

-- `~` behind the kind of a frame whose set was not exact
unfoldable pub mark_text : Bool → List ℕ
mark_text true = []
mark_text false = text "~"

-- place, kind and its mark, octets with CRC or `-`
unfoldable pub frame_text : ℕ → ReadFrame → List ℕ
frame_text p r =
    place_text p
    ++ ((0x20 ∷ []) ++ (decimal_of 1 r.shape.kind ++ (mark_text r.exact ++ (octets_text r.shape.octets ++ (0x0A ∷ [])))))

-- `noN P`
unfoldable pub no_text : ℕ → ℕ → List ℕ
no_text n p = text "no" ++ (decimal_of 2 n ++ ((0x20 ∷ []) ++ (place_text p ++ (0x0A ∷ []))))

-- `bad octet N`
unfoldable pub bad_octet_text : ℕ → List ℕ
bad_octet_text n = text "bad octet " ++ (place_text n ++ (0x0A ∷ []))

-- room for any line: a place, a space, the kind and its mark, 34 octets, LF
abbrev pub frame_line_room : ℕ
frame_line_room = 126
