-- No second outcome; proofs/OneWay.antt has the proofs.
-- Assumes nothing.
use Rattle.std.specs.Prelude.{◌≡◌, Bool, ℕ, Option}
use Rattle.machine.specs.Events.{Event}
use Rattle.fusb302.specs.declared.device.Device.{Device}
use Rattle.fusb302.specs.View.{view}
use Rattle.turn.specs.Turn.{Telling, Turned, Lent, TakesLine, TakesLineTelling}

-- two outcomes that no caller can tell apart, in what is answered and in all that is lent
pub record SameTurn (r s : Turned) (a b : Lent) : Type 0 where
  pub state : view r.device ≡ view s.device
  pub ends : r.ends ≡ s.ends
  pub at : r.at ≡ s.at
  pub out : a.out ≡ b.out
  pub octets : a.octets ≡ b.octets
  pub symbols : a.symbols ≡ b.symbols

abbrev pub OneTurn : Type 0
OneTurn =
    (fits : Bool) (d : Device) (e : Option Event) (number : ℕ) (before : Lent) (at : ℕ) (r s : Turned) (a b : Lent)
    → TakesLine fits d e number before at r a → TakesLine fits d e number before at s b → SameTurn r s a b

-- whatever is told
abbrev pub OneTelling : Type 0
OneTelling =
    (fits : Bool) (t : Telling) (d : Device) (e : Option Event) (number : ℕ) (before : Lent) (at : ℕ) (r s : Turned) (a b : Lent)
    → TakesLineTelling fits t d e number before at r a → TakesLineTelling fits t d e number before at s b → SameTurn r s a b
