-- Every listing that calls lead to is right.
-- Assumes nothing.
use mathlib.Core.Path.{◌≡◌, refl, sym, subst}
use mathlib.Core.Bool.{Bool, true, false}
use mathlib.Core.List.{List}
use Prim.Native.Nat.{ℕ}
use native.Mathlib.Omega.{arith}
use Rattle.listing.specs.declared.Listing.{Listing}
use Rattle.listing.specs.Steps.{empty_state}
use Rattle.listing.specs.Promises.{Fed, Right, may_print, BeginsListing, TakesCharacter, Feeds}
use Rattle.listing.specs.Theorems.{StaysRight}
use Rattle.listing.proofs.Goings.{may_bounds}

begins : (r : Listing) → BeginsListing r → Right r
unfolding empty_state
begins r e = subst Right (sym e) (record { few = omega arith; counted = omega arith })

module _ (l : Listing) (c : ℕ) (window out : List ℕ) (at : ℕ) (r : Fed) (window' out' : List ℕ) where
  feeds : Right l → Feeds l c window out at r window' out' → Right r.listing
  unfolding TakesCharacter
  feeds right = go (may_print l out at) refl
    where
      go : (b : Bool) → may_print l out at ≡ b → TakesCharacter b l c window out at r window' out' → Right r.listing
      go true e g = record { few = g.few; counted = omega (arith, g.counts, (may_bounds l out at e).fits) }
      go false e g = subst (λ (f : Fed). Right f.listing) (sym g.0) right

pub stays_right : StaysRight
stays_right = record { begin = begins; feed = feeds }
