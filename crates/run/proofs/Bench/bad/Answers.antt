-- What is printed lies in the buffer.
use native.Mathlib.Omega.{arith}
use borrow.Author.Rules.{rules}
use Rattle.turn.proofs.Turning.{bad_within}
use Rattle.run.proofs.Bench.bad.Goals as goal

pub stepped-requires : goal.stepped-requires
stepped-requires c =
    let console = c.room.new.self in
    let inside = bad_within console.out console.stream.used _ _ _ (search rules) c.print_bad.ensures.prints in
    omega (arith, inside)
