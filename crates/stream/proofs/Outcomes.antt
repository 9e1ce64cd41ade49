-- No second outcome, but for what the system answers.
-- Assumes nothing.
use mathlib.Core.Path.{◌≡◌, refl, sym, ap, ◌∙◌}
use mathlib.Core.Bool.{Bool, true, false, not, true≢false}
use mathlib.Core.List.{List}
use Prim.Native.Nat.{ℕ}
use Rattle.stream.specs.declared.Input.{Input}
use Rattle.stream.specs.declared.Stream.{Stream}
use Rattle.stream.specs.Promises.{ReadsMore}
use Rattle.stream.specs.Theorems.{OneBeginning, OneWritten, OneMaking, OneFilling, OneFillingRead, OneStepping}

pub one_beginning : OneBeginning
one_beginning r s p q = p ∙ sym q

-- a stream by its parts
parts : (r q : Stream) → r.input ≡ q.input → r.used ≡ q.used → r.on ≡ q.on → r ≡ q
parts r q i u o = λ k. record { input = i k; used = u k; on = o k }

pub one_written : OneWritten
one_written s r q x y o =
    parts r q
    (ap (λ (t : Stream). t.input) x.leaves ∙ sym (ap (λ (t : Stream). t.input) y.leaves))
    (ap (λ (t : Stream). t.used) x.leaves ∙ sym (ap (λ (t : Stream). t.used) y.leaves))
    o

pub one_making : OneMaking
one_making true s r q x y o = x ∙ sym y
one_making false s r q x y o = one_written s r q x y o

-- where nothing is read the input and the buffer stay
unread : (b : Bool) (i r : Input) (before a : List ℕ) → b ≡ false → ReadsMore (not b) i before r a → (r ≡ i) × (a ≡ before)
unread true i r before a e p = absurd (true≢false e)
unread false i r before a e p = p.stood refl

pub one_filling : OneFilling
one_filling true s r q before a c x y o off = (x.0 ∙ sym y.0, x.1 ∙ sym y.1)
one_filling false s r q before a c x y o off =
    let left = unread r.on s.input r.input before a (off refl) x.input in
    let right = unread q.on s.input q.input before c (sym o ∙ off refl) y.input in
    (parts r q (left.0 ∙ sym right.0) (x.used ∙ sym y.used) o, left.1 ∙ sym right.1)

pub one_filling_read : OneFillingRead
one_filling_read s r q before a c p x on on' =
    (p.used ∙ sym x.used, (p.input.came (ap not on)).0 ∙ sym (x.input.came (ap not on')).0)

pub one_stepping : OneStepping
one_stepping s input used ends r q x y = x.leaves ∙ sym y.leaves
