-- No second outcome: each promise names the reader's record, its place, the answer and the octets.
-- Assumes nothing.
use mathlib.Core.Path.{◌≡◌, sym, ap, ◌∙◌}
use mathlib.Core.List.{List}
use Prim.Native.Nat.{ℕ}
use Rattle.std.specs.Prelude.{Result}
use Rattle.line.specs.declared.read.FoundFrame.{FoundFrame}
use Rattle.line.specs.declared.read.ReadError.{ReadError}
use Rattle.line.specs.Reader.{said, behind}
use Rattle.line.proofs.Outcomes.{one_reading, one_rest}
use Rattle.reader.specs.Step.{Steps}
use Rattle.reader.specs.Theorems.{OneNew, OneNext, OnePlace, OneUnread, OneMove}

-- ---- 5. One outcome

one_step : (line : List ℕ) (at : ℕ) (before : List ℕ) (r s : Result FoundFrame ReadError) (a b : List ℕ) (p q : ℕ)
    → Steps line at before r a p → Steps line at before s b q → (r ≡ s) × (a ≡ b) × (p ≡ q)
one_step line at before r s a b p q x y =
    let o = one_reading line at before r s a b x.reads y.reads in
    (o.0, o.1, x.moves ∙ ap (λ (t : Result FoundFrame ReadError). behind at (said t)) o.0 ∙ sym y.moves)

pub one_new : OneNew
one_new line r s x y = λ i. record { line = (x.holds ∙ sym y.holds) i; at = record { at = (x.begins ∙ sym y.begins) i } }

pub one_next : OneNext
one_next h before r s a b e f x y =
    let o = one_step _ _ _ r s a b _ _ x.steps y.steps in
    (o.0, o.1, λ i. record { line = (x.holds ∙ sym y.holds) i; at = record { at = o.2 i } })

pub one_place : OnePlace
one_place h r s x y = x ∙ sym y

pub one_unread : OneUnread
one_unread h r s x y = one_rest _ _ r s x y

pub one_move : OneMove
one_move line at before r s a b x y =
    let o = one_step line at before r.answer s.answer a b r.at.at s.at.at x y in
    (λ i. record { answer = o.0 i; at = record { at = o.2 i } }, o.1)
