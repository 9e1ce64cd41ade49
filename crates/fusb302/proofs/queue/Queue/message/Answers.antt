-- The octets of a message are those behind its token.
use mathlib.Core.Path.{refl}
use native.Mathlib.Omega.{arith}
use borrow.Author.Rules.{rules}
use Rattle.fusb302.proofs.Queueing.{spelt_set}
use Rattle.fusb302.proofs.queue.Queue.message.Goals as goal

pub returns : goal.returns
returns c =
    let q = c.args.self.now in
    rw c.then_some.ensures (spelt_set q.octets q.len c.from-count.result (search rules) c.if-self-count.false (omega (arith, q.size, q.room)) _ (search rules) (search rules) refl _ (search rules))
