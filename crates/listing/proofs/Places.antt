-- How many symbols have been read where these are too few for a frame, or its CRC is wrong.
-- Assumes nothing.
use mathlib.Core.Path.{◌≡◌, ap}
use mathlib.Core.List.{List, append-nil}
use mathlib.Core.Logic.{◌⊎◌, inl, inr}
use Prim.Native.Nat.{ℕ, ◌<◌, ◌≤◌}
use native.Mathlib.Omega.{arith}
use borrow.Author.Tests.{le-ltb}
use lib.ListN.{length, length-append}
use Rattle.line.specs.Kind.{sop_kinds, set_of, carries}
use Rattle.line.specs.Frame.{Shape, Shaped, drawn}
use Rattle.line.specs.Read.{wrong_crc, too_short, first}
use Rattle.line.specs.Place.{Cut}
use Rattle.line.specs.Taken.{AsIfExact}
use Rattle.line.proofs.Looks.{empty}
use Rattle.line.proofs.Starts.{set_length}
use Rattle.line.proofs.Shapes.{length_drawn}
use Rattle.line.proofs.Exactly.{straight_long, wrong_crc_exactly, too_short_exactly}
use Rattle.listing.specs.Promises.{window_room}

-- ---- no frame is longer than the window

length_alone : (s : Shape) → sop_kinds ≤ s.kind → length (drawn s) ≡ length (set_of s.kind)
unfolding drawn carries
length_alone s h = simp (le-ltb s.kind sop_kinds h, append-nil)

pub drawn_few : {s : Shape} → Shaped s → length (drawn s) ≤ window_room
drawn_few {s} (Shaped.message h o lo hi) = omega (arith, length_drawn s h)
drawn_few {s} (Shaped.alone h k e) = omega (arith, length_alone s h, set_length s.kind k)

-- ---- the record ends inside a frame

cut_few : {l : List ℕ} → Cut l → length l < window_room
cut_few c =
    let b = c.begins in
    let n = simp length-append at (ap length b.is) in
    let more : length b.rest ≡ 0 → ⊥ = λ z. c.more (empty b.rest z) in
    omega (arith, drawn_few b.shaped)

pub short_few : (w : List ℕ) (q : ℕ) → first w ≡ too_short q → length w < window_room
short_few w q e = go ((too_short_exactly w q).0 e).0
  where
    go : (length w < 4) ⊎ AsIfExact Cut w → length w < window_room
    go (inl h) = omega arith
    go (inr a) = omega (arith, cut_few a.holds, straight_long w a.kind a.exact a.taken)

-- ---- a CRC is wrong: the place is one of the record's

pub wrong_crc_place : (w : List ℕ) (q : ℕ) → first w ≡ wrong_crc q → q < length w
wrong_crc_place w q e =
    let a = (wrong_crc_exactly w q).0 e in
    let t = a.holds in
    omega (arith, simp length-append at (ap length t.is), t.before_end, straight_long w a.kind a.exact a.taken)
