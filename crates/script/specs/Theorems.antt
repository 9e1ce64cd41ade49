-- No second outcome; proofs/Outcomes.antt has the proof of each statement.
-- Assumes nothing.
use Rattle.std.specs.Prelude.{◌≡◌, Bool, List, ℕ, Option}
use Rattle.std.proofs.Math.Option as math
use Rattle.machine.specs.Events.{Event, Reply}
use Rattle.machine.specs.Why.{Reason}
use Rattle.script.specs.declared.parse.Line.{Line}
use Rattle.script.specs.Parse.{ReadsCount, ParsesSetup, Parses}
use Rattle.script.specs.Print.{PrintsOutcome, PrintsBad, PrintsWhy}

abbrev pub OneCount : Type 0
OneCount = (l : List ℕ) (r s : Option ℕ) → ReadsCount l r → ReadsCount l s → r ≡ s

abbrev pub OneSetup : Type 0
OneSetup = (l : List ℕ) (r s : Option Line) → ParsesSetup l r → ParsesSetup l s → r ≡ s

abbrev pub OneParsing : Type 0
OneParsing =
    (e : Option Event) (before : List ℕ) (r s : Option Line) (a b : List ℕ) → Parses e before r a → Parses e before s b → (r ≡ s) × (a ≡ b)

abbrev pub OnePrintedOutcome : Type 0
OnePrintedOutcome =
    (reply : Reply) (high : Bool) (symbols out : List ℕ) (at r s : ℕ) (a b : List ℕ)
    → PrintsOutcome reply high symbols out at r a → PrintsOutcome reply high symbols out at s b → (r ≡ s) × (a ≡ b)

abbrev pub OnePrintedBad : Type 0
OnePrintedBad = (line : ℕ) (out : List ℕ) (at r s : ℕ) (a b : List ℕ) → PrintsBad line out at r a → PrintsBad line out at s b → (r ≡ s) × (a ≡ b)

abbrev pub OnePrintedWhy : Type 0
OnePrintedWhy =
    (line : ℕ) (reason : math.Option Reason) (out : List ℕ) (at r s : ℕ) (a b : List ℕ)
    → PrintsWhy line reason out at r a → PrintsWhy line reason out at s b → (r ≡ s) × (a ≡ b)
