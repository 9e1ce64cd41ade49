-- The kinds by their numbers.
-- Assumes nothing.
use mathlib.Core.Path.{◌≡◌, refl}
use mathlib.Core.List.{List, [], ◌∷◌}
use Prim.Native.Nat.{ℕ, zero, suc, ◌<◌}
use native.Mathlib.Omega.{arith}
use Rattle.line.specs.declared.kind.SopKind.{SopKind}
use Rattle.line.specs.declared.kind.SopKind.TheVariants.{Sop, SopPrime, SopDoublePrime, SopPrimeDebug, SopDoublePrimeDebug}
use Rattle.line.specs.declared.kind.Kind.{Kind}
use Rattle.line.specs.declared.kind.Kind.TheVariants.{Message, HardReset}
use Rattle.line.specs.Kind.{kinds, sop_kinds}
use Rattle.line.specs.Numbered.{sop_number, kind_number}

pub sop_below : (s : SopKind) → sop_number s < sop_kinds
sop_below Sop = omega arith
sop_below SopPrime = omega arith
sop_below SopDoublePrime = omega arith
sop_below SopPrimeDebug = omega arith
sop_below SopDoublePrimeDebug = omega arith

pub kind_below : (k : Kind) → kind_number k < kinds
kind_below (Message s) = let h = sop_below s in omega arith
kind_below HardReset = omega arith

-- the kind of a number; of one past the table the last
pub kind_of : ℕ → Kind
kind_of zero = Message Sop
kind_of (suc zero) = Message SopPrime
kind_of (suc (suc zero)) = Message SopDoublePrime
kind_of (suc (suc (suc zero))) = Message SopPrimeDebug
kind_of (suc (suc (suc (suc zero)))) = Message SopDoublePrimeDebug
kind_of (suc (suc (suc (suc (suc n))))) = HardReset

pub kind_back : (k : Kind) → kind_of (kind_number k) ≡ k
unfolding kind_of
kind_back (Message Sop) = refl
kind_back (Message SopPrime) = refl
kind_back (Message SopDoublePrime) = refl
kind_back (Message SopPrimeDebug) = refl
kind_back (Message SopDoublePrimeDebug) = refl
kind_back HardReset = refl

-- the kinds in the order of their numbers
abbrev pub in_order : List Kind
in_order = Message Sop ∷ Message SopPrime ∷ Message SopDoublePrime ∷ Message SopPrimeDebug ∷ Message SopDoublePrimeDebug ∷ HardReset ∷ []
