-- An answer names the place that a step leads to.
-- Assumes nothing.
use mathlib.Core.Path.{◌≡◌, refl}
use Prim.Native.Nat.{ℕ}
use Rattle.std.specs.Prelude.{Err}
use Rattle.line.specs.declared.read.ReadError.{ReadError}
use Rattle.line.specs.declared.read.ReadError.TheVariants.{SmallBuffer, NoFrame, TooShort, WrongCrc}
use Rattle.line.specs.Reader.{said, behind}

-- behind a frame, and the same place where there is none
pub stays : (at : ℕ) (e : ReadError) → at ≡ behind at (said (Err e))
unfolding behind
stays at SmallBuffer = refl
stays at (NoFrame p) = refl
stays at (TooShort p) = refl
stays at (WrongCrc p) = refl
