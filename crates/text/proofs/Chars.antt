-- Ranges of characters.
-- Assumes nothing.
use mathlib.Core.Path.{◌≡◌}
use mathlib.Core.Bool.{true, false, and-false}
use Prim.Native.Nat.{ℕ, ◌<◌, ◌≤◌}
use borrow.Author.Tests.{le-leb, lt-leb}
use lib.Dec.{leb}
use Rattle.text.specs.Hex.{within}

pub in_range : (lo hi c : ℕ) → lo ≤ c → c ≤ hi → within lo hi c ≡ true
in_range lo hi c h k = simp (le-leb lo c h, le-leb c hi k)

pub below : (lo hi c : ℕ) → c < lo → within lo hi c ≡ false
below lo hi c h = simp (lt-leb lo c h)

pub above : (lo hi c : ℕ) → hi < c → within lo hi c ≡ false
above lo hi c h = simp (lt-leb c hi h) (and-false (leb lo c))
