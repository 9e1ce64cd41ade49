-- The record of a history: how many symbols each event adds, and that it names the frames.
-- Assumes nothing.
use mathlib.Core.Path.{◌≡◌, refl, sym, ap, ◌∙◌}
use mathlib.Core.List.{List, [], ◌∷◌, ◌++◌, append-nil}
use mathlib.Core.Logic.{◌⊎◌, inl, inr, ⊎_elim}
use Prim.Native.Nat.{ℕ, ◌≤◌}
use native.Mathlib.Omega.{arith}
use lib.ListN.{length}
use Rattle.line.specs.Frame.{Frame, AllWhole, symbols_of, joined}
use Rattle.line.specs.Write.{frame_room}
use Rattle.line.proofs.Writing.{frame_lengths}
use Rattle.line.proofs.Division.{unique_division}
use Rattle.machine.specs.State.{State, power_up}
use Rattle.machine.specs.Events.{Event}
use Rattle.machine.specs.Step.{step, frames, record_of}
use Rattle.machine.specs.Good.{Good}
use Rattle.machine.specs.Theorems.{AllFit, SymbolsSent, RecordNamesFrames, RecordsDiffer}
use Rattle.machine.proofs.Keeping.{power_up_good}
use Rattle.machine.proofs.Staying.{step_fine, stays_good, whole_frames}

-- ---- 3. The symbols of one event

abbrev Counts : ℕ → Type 0
Counts n = (n ≡ 0) ⊎ ((n ≡ 4) ⊎ ((17 ≤ n) × (n ≤ frame_room)))

counted : (fs : List Frame) → AllWhole fs → length fs ≤ 1 → Counts (length (joined fs))
unfolding joined
counted [] w h = inl refl
counted (f ∷ []) w h =
    let e : length (symbols_of f) ≡ length (symbols_of f ++ []) = ap length (sym (append-nil (symbols_of f))) in
    inr (⊎_elim (λ p. inl (sym e ∙ p)) (λ p. inr (omega arith, omega arith)) (frame_lengths f w.0))
counted (f ∷ g ∷ fs) w h = absurd (omega arith)

pub symbols_sent : SymbolsSent
symbols_sent s e g f = let z = step_fine s e g f in counted (step s e).frames z.whole z.few

-- ---- 7. The record names the frames

all_whole : (fs gs : List Frame) → AllWhole fs → AllWhole gs → AllWhole (fs ++ gs)
all_whole [] gs p q = q
all_whole (f ∷ fs) gs p q = (p.0, all_whole fs gs p.1 q)

pub whole_from : (s : State) → Good s → (es : List Event) → AllFit es → AllWhole (frames s es)
unfolding frames
whole_from s g [] f = tt
whole_from s g (e ∷ es) f =
    all_whole (step s e).frames _ (whole_frames s e g f.0) (whole_from (step s e).state (stays_good s e g f.0) es f.1)

pub record_names_frames : RecordNamesFrames
unfolding record_of
record_names_frames es f =
    let w = whole_from power_up power_up_good es f in
    (w, λ gs p e. unique_division gs (frames power_up es) p w e)

pub records_differ : RecordsDiffer
unfolding record_of
records_differ es fs p q ne e =
    ne (unique_division (frames power_up es) (frames power_up fs) (whole_from power_up power_up_good es p) (whole_from power_up power_up_good fs q) e)
