-- Room is made, so that a line is taken; where the run goes on it was in form.
use mathlib.Core.Path.{◌≡◌, sym, ap, ◌∙◌, subst}
use mathlib.Core.List.{List}
use Prim.Native.Nat.{ℕ}
use native.Mathlib.Omega.{arith}
use lib.ListN.{take}
use Rattle.std.specs.Prelude.{Some}
use Rattle.stream.specs.declared.Stream.{Stream}
use Rattle.turn.specs.Turn.{meant_by}
use Rattle.turn.proofs.Turning.{steps_on}
use Rattle.run.specs.declared.Bench.{Bench}
use Rattle.run.proofs.Bench.one.Goals.{then-self, else-self}
use Rattle.run.proofs.Bench.one.Goals as goal

pub returns-clause-takes : goal.returns-clause-takes
returns-clause-takes g c on =
    let goes = sym (ap (λ (s : Stream). s.on) c.stepped.ensures.steps.leaves) ∙ on in
    let event = steps_on _ c.args.device _ _ _ _ _ _ _ (c.room.ensures.made (omega arith)) c.tell-after.ensures.takes goes in
    let n = c.next_line-length.result in
    let same : c.if-self.self.line ≡ c.next_line-length.new.self.line =
    elim c.if-self.branch [
      | then-self w ↦ ap (λ (b : Bench). b.line) w.self-is
      | else-self w ↦ ap (λ (b : Bench). b.line) w.self-is
    ] in
    (n, event.0, subst (λ (l : List ℕ). meant_by c.args.setup (take n l) ≡ Some event.0) (sym same) event.1, event.2)
