-- Devices that stand for states, one part replaced after another, and what they send.
-- Assumes nothing.
use mathlib.Core.Path.{refl, ap, ◌∙◌}
use mathlib.Core.List.{List, [], ◌∷◌}
use mathlib.Core.Option.{Option, none, some}
use Prim.Native.Nat.{ℕ}
use Rattle.line.specs.Frame.{Frame}
use Rattle.machine.specs.State.{State, shows, raises_a}
use Rattle.machine.specs.Requests.{silent, sends, sends_if, over}
use Rattle.fusb302.specs.declared.device.Device.{Device}
use Rattle.std.specs.Prelude.{None, Ok}
use Rattle.fusb302.specs.declared.device.Outcome.{Outcome}
use Rattle.fusb302.specs.View.{view}
use Rattle.fusb302.specs.Serves.{if_any, Becomes, Sends, Does}
use Rattle.fusb302.proofs.Showing.{arranged}
use Rattle.fusb302.proofs.Sending.{sends_none}

abbrev pub done : Device → ℕ → Outcome
done t n = record { device = t; reply = Ok None; count = n }

pub itself : (d : Device) → Becomes (view d) d
itself d = record { state = refl; arranged = arranged d }

module _ (s : State) (t : Device) (is : Becomes s t) where
  -- and then another part is replaced
  pub and_then : (f : State → State) (u : Device) → Becomes (f (view t)) u → Becomes (f s) u
  and_then f u h = record { state = h.state ∙ ap f is.state; arranged = h.arranged }

  module _ (before : List ℕ) where
    pub silently : Does (silent s) before (done t 0) before
    silently = record { state = is.state; arranged = is.arranged; reply = refl; sends = sends_none before }

    module _ (n : ℕ) (after : List ℕ) where
      pub sending : (f : Frame) → Sends (f ∷ []) before n after → Does (sends f s) before (done t n) after
      sending f h = record { state = is.state; arranged = is.arranged; reply = refl; sends = h }

      pub if_sending : (o : Option Frame) → Sends (if_any o) before n after → Does (sends_if o s) before (done t n) after
      if_sending none h = record { state = is.state; arranged = is.arranged; reply = refl; sends = h }
      if_sending (some f) h = sending f h

-- ---- a request is over, and bits are set in 3C and 3E

pub over_noted : (d a b c : Device) (m i : ℕ) → Becomes (over (view d)) a → Becomes (shows m (view a)) b → Becomes (raises_a i (view b)) c
    → Becomes (raises_a i (shows m (over (view d)))) c
over_noted d a b c m i p q r = and_then _ b (and_then _ a p (shows m) b q) (raises_a i) c r
