-- A reply and a reason of the device, printed by the numbers of its refusals, are printed as what they mean.
-- Assumes nothing.
use mathlib.Core.Path.{◌≡◌, sym, ap, ◌∙◌, subst}
use mathlib.Core.Bool.{Bool}
use mathlib.Core.List.{List}
use mathlib.Core.Option.{Option, some}
use Prim.Native.Nat.{ℕ}
use Rattle.std.specs.Prelude.{Some, None, Ok, Err}
use Rattle.machine.specs.Events as events
use Rattle.machine.specs.Why.{Reason, refused}
use Rattle.fusb302.specs.declared.refusals.No.{No}
use Rattle.fusb302.specs.declared.why.Why.{Why}
use Rattle.fusb302.specs.declared.why.Why.TheVariants.{Refused, KindOff, CrcWrong, NoRoom, IsGoodCrc, AutoCrcOff, AutoPreOn, DriverOff, Leaves}
use Rattle.fusb302.specs.Refusals.{number_of}
use Rattle.fusb302.specs.Serves.{Reply, replied}
use Rattle.fusb302.specs.Why.{reason_of}
use Rattle.script.specs.Print.{Answers, Names, PrintsOutcome, PrintsWhy}

-- what a refusal converts to is its number
abbrev Converts : No → ℕ → Type 0
Converts x n = n ≡ number_of x

answers_reply : (r : Reply) (m : events.Reply) → Answers Converts r m → m ≡ replied r
answers_reply (Ok None) m e = e
answers_reply (Ok (Some v)) m e = e
answers_reply (Err x) m e = e.2 ∙ ap events.no e.1

names_reason : (w : Why No) (o : Option Reason) → Names Converts w o → o ≡ reason_of w
names_reason (Refused x) o e = e.2 ∙ ap (λ (n : ℕ). some (refused n)) e.1
names_reason KindOff o e = e
names_reason CrcWrong o e = e
names_reason NoRoom o e = e
names_reason IsGoodCrc o e = e
names_reason AutoCrcOff o e = e
names_reason AutoPreOn o e = e
names_reason DriverOff o e = e
names_reason Leaves o e = e

pub prints_reply : (r : Reply) (high : Bool) (symbols out : List ℕ) (at end : ℕ) (out' : List ℕ)
    → ((m : events.Reply) × Answers Converts r m × PrintsOutcome m high symbols out at end out')
    → PrintsOutcome (replied r) high symbols out at end out'
prints_reply r high symbols out at end out' p =
    subst (λ (m : events.Reply). PrintsOutcome m high symbols out at end out') (answers_reply r p.0 p.1) p.2

pub prints_reason : (w : Why No) (line : ℕ) (out : List ℕ) (at end : ℕ) (out' : List ℕ)
    → ((o : Option Reason) × Names Converts w o × PrintsWhy line o out at end out')
    → PrintsWhy line (reason_of w) out at end out'
prints_reason w line out at end out' p =
    subst (λ (o : Option Reason). PrintsWhy line o out at end out') (names_reason w p.0 p.1) p.2
