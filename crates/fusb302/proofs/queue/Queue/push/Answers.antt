-- What is to come follows from what was to come before the octet.
use mathlib.Core.Path.{sym, ap, ◌∙◌}
use native.Mathlib.Omega.{arith}
use Rattle.machine.specs.Queue.{to_come}
use Rattle.fusb302.specs.Queued.{queued}
use Rattle.fusb302.proofs.Queueing.{pushed, announced_or, left_token, left_data}
use Rattle.fusb302.proofs.queue.Queue.push.Goals.{then-self-eq0, else-self-eq0}
use Rattle.fusb302.proofs.queue.Queue.push.Goals as goal

pub invariant_of-self-clause-counted : goal.invariant_of-self-clause-counted
invariant_of-self-clause-counted c =
    let q = c.args.self in
    let b = c.args.octet in
    let is = pushed q.octets q.len b (omega arith) in
    elim c.if-self-eq0.branch [
      | then-self-eq0 w ↦ w.self-is ∙ w.unwrap_or.ensures ∙ announced_or _ _ w.announced.ensures ∙ sym (ap (to_come 0) is ∙ left_token (queued q) b (sym q.counted ∙ w.if-self-eq0.true))
      | else-self-eq0 w ↦ w.self-is ∙ rw q.counted (sym (ap (to_come 0) is ∙ left_data (queued q) b (λ e. w.if-self-eq0.false (q.counted ∙ e))))
    ]
