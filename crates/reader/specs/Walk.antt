-- A record walked frame after frame, by what it begins with (01, 'Line reader'; 02, A4).
-- Assumes nothing.
use Rattle.std.specs.Prelude.{◌≡◌, true, List, [], ◌∷◌, ◌++◌, map, ℕ, zero, suc, length, drop}
use Rattle.line.specs.Frame.{Frame, drawn, sealed}
use Rattle.line.specs.Read.{ReadFrame, exact_frame, First, frame, wrong_crc, too_short, no_frame, first}
use Rattle.line.specs.Taken.{TakenAs, straight}

-- each frame with whether its set was exact, what is left of the record, and what stands there instead of a frame
pub record Walked : Type 0 where
  pub frames : List ReadFrame
  pub rest : List ℕ
  pub ended : First

unfoldable pub ends : List ℕ → First → Walked
ends line f = record { frames = []; rest = line; ended = f }

-- a frame before those of a walk
unfoldable pub before : ReadFrame → Walked → Walked
before r w = record { frames = r ∷ w.frames; rest = w.rest; ended = w.ended }

-- behind a frame's symbols it goes on; where there is none it ends
unfoldable pub onward : List ℕ → First → (List ℕ → Walked) → Walked
onward line (frame r) go = before r (go (drop (length (drawn r.shape)) line))
onward line (wrong_crc p) go = ends line (wrong_crc p)
onward line (too_short p) go = ends line (too_short p)
onward line (no_frame p) go = ends line (no_frame p)

-- over n frames at most
unfoldable pub walk_for : ℕ → List ℕ → Walked
walk_for zero line = ends line (first line)
walk_for (suc n) line = onward line (first line) (walk_for n)

-- no record has more frames than symbols
unfoldable pub walk : List ℕ → Walked
walk line = walk_for (length line) line

-- the symbols of frames with their sets exact, joined
unfoldable pub drawn_all : List ReadFrame → List ℕ
drawn_all [] = []
drawn_all (r ∷ rs) = drawn r.shape ++ drawn_all rs

-- frames as they are read with their sets exact
abbrev pub read_exact : List Frame → List ReadFrame
read_exact fs = map (λ f. exact_frame (sealed f)) fs

abbrev pub AllExact : List ReadFrame → Type 0
AllExact [] = Unit {0}
AllExact (r ∷ rs) = (r.exact ≡ true) × AllExact rs

-- the record is these frames and then the rest: of each the set is taken, and with that set its symbols stand there
abbrev pub Covers : List ReadFrame → List ℕ → List ℕ → Type 0
Covers [] rest line = line ≡ rest
Covers (r ∷ rs) rest line =
    TakenAs line r.shape.kind r.exact
    × (drawn r.shape ++ drop (length (drawn r.shape)) line ≡ straight r.shape.kind line)
    × Covers rs rest (drop (length (drawn r.shape)) line)
