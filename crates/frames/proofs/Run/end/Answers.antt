-- What is said at the end is printed inside the buffer.
use native.Mathlib.Omega.{arith}
use borrow.Author.Rules.{rules}
use Rattle.listing.proofs.Goings.{finish_inside}
use Rattle.frames.proofs.Run.end.Goals as goal

pub stepped-requires : goal.stepped-requires
stepped-requires c =
    let a = c.args.self.now in
    let inside = finish_inside c.args.listing a.console.out a.console.stream.used c.finish.new.page.at _ (search rules) c.finish.ensures.finishes in
    omega (arith, inside)
