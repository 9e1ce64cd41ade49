-- The code's answer on which set a record begins with, as the definitions have it.
-- Assumes nothing.
use Rattle.std.specs.Prelude.{◌≡◌, List, ℕ, Result, Ok, Err}
use Rattle.line.specs.declared.kind.Kind.{Kind}
use Rattle.line.specs.declared.sets.Start.{Start}
use Rattle.line.specs.declared.read.ReadError.{ReadError}
use Rattle.line.specs.declared.read.ReadError.TheVariants.{SmallBuffer, NoFrame, TooShort, WrongCrc}
use Rattle.line.specs.Numbered.{kind_number}
use Rattle.line.specs.Read.{found, short, misfit, set_at}

abbrev pub TakesSet : List ℕ → Result (Start Kind) ReadError → Type 0
TakesSet line (Ok start) = set_at line ≡ found (record { kind = kind_number start.kind; exact = start.exact })
TakesSet line (Err (TooShort p)) = set_at line ≡ short p
TakesSet line (Err (NoFrame p)) = set_at line ≡ misfit p
TakesSet line (Err SmallBuffer) = ⊥
TakesSet line (Err (WrongCrc p)) = ⊥
