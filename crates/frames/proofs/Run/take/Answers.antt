-- What a character prints ends inside the buffer, whether the listing goes on or ends.
use mathlib.Core.Path.{◌≡◌, refl}
use Prim.Native.Nat.{ℕ}
use native.Mathlib.Omega.{arith}
use borrow.Author.Rules.{rules}
use Rattle.std.specs.Prelude.{Option, Some, None}
use Rattle.listing.specs.declared.Listing.{Listing}
use Rattle.listing.specs.Promises.{fed_as}
use Rattle.listing.proofs.Goings.{feed_inside}
use Rattle.frames.proofs.Run.take.Goals as goal

fed_at : (l : Listing) (next : Option Listing) (at : ℕ) → (fed_as l next at).at ≡ at
fed_at l (Some m) at = refl
fed_at l None at = refl

pub stepped-requires : goal.stepped-requires
stepped-requires c =
    let a = c.args.self.now in
    let fed = fed_as c.args.listing c.feed-next.result c.feed-next.new.page.at in
    let inside = feed_inside c.args.listing c.args.c a.window a.console.out a.console.stream.used fed _ _ (search rules) c.feed-next.ensures.feeds in
    omega (arith, inside, fed_at c.args.listing c.feed-next.result c.feed-next.new.page.at)
