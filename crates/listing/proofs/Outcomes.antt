-- No second outcome: each promise says all of what it gives.
-- Assumes nothing.
use mathlib.Core.Path.{◌≡◌, refl, sym, ap, ◌∙◌}
use mathlib.Core.Bool.{Bool, true, false, true≢false}
use mathlib.Core.List.{List}
use Prim.Native.Nat.{ℕ}
use Rattle.std.specs.Prelude.{Some, None}
use Rattle.text.proofs.Outcomes.{one_printing}
use Rattle.listing.specs.declared.Listing.{Listing}
use Rattle.listing.specs.Promises.{Fed, may_print, TakesCharacter}
use Rattle.listing.specs.Theorems.{OneBegin, OneFeed, OneMeaningFed, OneFinish}

pub one_begin : OneBegin
one_begin r s p q = p ∙ sym q

taken_once : (b : Bool) (l : Listing) (c : ℕ) (window out : List ℕ) (at : ℕ) (r s : Fed) (w x a d : List ℕ)
    → TakesCharacter b l c window out at r w a → TakesCharacter b l c window out at s x d → (r ≡ s) × (w ≡ x) × (a ≡ d)
unfolding TakesCharacter
taken_once true l c window out at r s w x a d p q = (p.fed ∙ sym q.fed, p.holds ∙ sym q.holds, p.stands ∙ sym q.stands)
taken_once false l c window out at r s w x a d p q = (p.0 ∙ sym q.0, p.1 ∙ sym q.1, p.2 ∙ sym q.2)

pub one_feed : OneFeed
one_feed l c window out at r s w x a d p q = taken_once (may_print l out at) l c window out at r s w x a d p q

pub one_meaning_fed : OneMeaningFed
one_meaning_fed l (Some m) (Some n) p q e = (ap (λ (x : Fed). Some x.listing) e, ap (λ (x : Fed). x.at) e)
one_meaning_fed l (Some m) None p q e = absurd (true≢false (sym (ap (λ (x : Fed). x.ends) e)))
one_meaning_fed l None (Some n) p q e = absurd (true≢false (ap (λ (x : Fed). x.ends) e))
one_meaning_fed l None None p q e = (refl, ap (λ (x : Fed). x.at) e)

pub one_finish : OneFinish
one_finish l out at r s a b p q = one_printing (may_print l out at) out at _ r s a b p q
