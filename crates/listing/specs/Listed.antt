-- All that is printed of an input, by the walk over the record that it writes.
-- Assumes nothing.
use Rattle.std.specs.Prelude.{Bool, true, false, List, [], ◌∷◌, ◌++◌, ℕ, zero, suc, ◌+◌, length}
use Rattle.line.specs.Frame.{drawn}
use Rattle.line.specs.Read.{ReadFrame, First, frame, wrong_crc, too_short, no_frame}
use Rattle.reader.specs.Walk.{Walked, walk, drawn_all}
use Rattle.listing.specs.Form.{recorded}
use Rattle.listing.specs.Lines.{frame_text, no_text, bad_octet_text}

-- the frames from a place on
unfoldable pub frames_text : ℕ → List ReadFrame → List ℕ
frames_text p [] = []
frames_text p (r ∷ rs) = frame_text p r ++ frames_text (p + length (drawn r.shape)) rs

-- the record is at its end with n symbols that no frame has: nothing behind a whole frame, else 14; or its form breaks at the next
unfoldable pub short_text : Bool → ℕ → ℕ → List ℕ
short_text true p zero = []
short_text true p (suc n) = no_text 14 (p + suc n)
short_text false p n = bad_octet_text (p + n + 1)

-- what ends the walk; p is the place of what is left, and no walk ends with a frame
unfoldable pub last_text : Bool → ℕ → List ℕ → First → List ℕ
last_text kept p rest (frame r) = []
last_text kept p rest (no_frame q) = no_text 13 (p + q)
last_text kept p rest (too_short q) = short_text kept p (length rest)
last_text kept p rest (wrong_crc q) = no_text 15 (p + q)

-- a walk that begins at a place
unfoldable pub walk_text : Bool → ℕ → Walked → List ℕ
walk_text kept p w = frames_text p w.frames ++ last_text kept (p + length (drawn_all w.frames)) w.rest w.ended

unfoldable pub listed : List ℕ → List ℕ
listed input = walk_text (recorded input).kept 0 (walk (recorded input).symbols)
