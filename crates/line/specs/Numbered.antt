-- The kinds by their numbers in the table, as the code names them (01, 'Line code (PD)', table).
-- Assumes nothing.
use Rattle.std.specs.Prelude.{◌≡◌, ℕ, ◌≤◌, Result, MatchResult}
use Rattle.line.specs.declared.kind.SopKind.{SopKind}
use Rattle.line.specs.declared.kind.SopKind.TheVariants.{Sop, SopPrime, SopDoublePrime, SopPrimeDebug, SopDoublePrimeDebug}
use Rattle.line.specs.declared.kind.Kind.{Kind}
use Rattle.line.specs.declared.kind.Kind.TheVariants.{Message, HardReset}
use Rattle.line.specs.declared.kind.UnknownKind.{UnknownKind}
use Rattle.line.specs.Kind.{kinds, sop_kinds}

abbrev pub sop_number : SopKind → ℕ
sop_number Sop = 0
sop_number SopPrime = 1
sop_number SopDoublePrime = 2
sop_number SopPrimeDebug = 3
sop_number SopDoublePrimeDebug = 4

abbrev pub kind_number : Kind → ℕ
kind_number (Message s) = sop_number s
kind_number HardReset = 5

-- the kind of this number; or there is none
abbrev pub NamesSop : ℕ → Result SopKind UnknownKind → Type 0
NamesSop n r = MatchResult r (λ s. sop_number s ≡ n) (λ e. sop_kinds ≤ n)

abbrev pub NamesKind : ℕ → Result Kind UnknownKind → Type 0
NamesKind n r = MatchResult r (λ k. kind_number k ≡ n) (λ e. kinds ≤ n)
