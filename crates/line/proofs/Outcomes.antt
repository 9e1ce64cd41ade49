-- No second outcome, and each answer means one thing.
-- Assumes nothing.
use mathlib.Core.Path.{◌≡◌, refl, sym, ap, ◌∙◌}
use mathlib.Core.Bool.{cond}
use lib.Dec.{eqb}
use Rattle.std.specs.Prelude.{ℕ, Result, Ok, Err}
use Rattle.line.specs.declared.kind.Kind.{Kind}
use Rattle.line.specs.declared.read.FoundFrame.{FoundFrame}
use Rattle.line.specs.declared.read.ReadError.{ReadError}
use Rattle.line.specs.declared.read.ReadError.TheVariants.{SmallBuffer, NoFrame, TooShort, WrongCrc}
use Rattle.line.specs.declared.write.WriteError.{WriteError}
use Rattle.line.specs.declared.write.WriteError.TheVariants.{SmallBuffer as SmallRoom, UnknownKind, WrongLength}
use Rattle.line.proofs.Numbers.{kind_of, kind_back}
use Rattle.line.specs.Write.{Wrote, sent, written}
use Rattle.line.specs.Reader.{Said, was_read, said_no, no_at, said}
use Rattle.line.specs.Theorems.{OneMeaningWritten, OneMeaningSaid, OneCrc, OneRight, OneRest, OneWriting, OneReading, OneFirstReading}

-- ---- the answer of a meaning

written_of : Wrote → Result ℕ WriteError
written_of (sent n) = Ok n
written_of (Wrote.no n) = Err (cond (eqb n 12) SmallRoom (cond (eqb n 11) UnknownKind WrongLength))

written_back : (r : Result ℕ WriteError) → written_of (written r) ≡ r
unfolding written_of
written_back (Ok n) = refl
written_back (Err SmallRoom) = refl
written_back (Err UnknownKind) = refl
written_back (Err WrongLength) = refl

answer_of : Said → Result FoundFrame ReadError
answer_of (was_read k exact n p) = Ok (record { kind = kind_of k; exact = exact; count = n; next = record { at = p } })
answer_of (said_no n) = Err SmallBuffer
answer_of (no_at n p) = Err (cond (eqb n 13) (NoFrame p) (cond (eqb n 14) (TooShort p) (WrongCrc p)))

answer_back : (r : Result FoundFrame ReadError) → answer_of (said r) ≡ r
unfolding answer_of
answer_back (Ok f) = ap (λ (k : Kind). Ok (record { kind = k; exact = f.exact; count = f.count; next = f.next })) (kind_back f.kind)
answer_back (Err SmallBuffer) = refl
answer_back (Err (NoFrame p)) = refl
answer_back (Err (TooShort p)) = refl
answer_back (Err (WrongCrc p)) = refl

-- ---- 6. One meaning, one outcome

pub one_meaning_written : OneMeaningWritten
one_meaning_written r s e = sym (written_back r) ∙ ap written_of e ∙ written_back s

pub one_meaning_said : OneMeaningSaid
one_meaning_said r s e = sym (answer_back r) ∙ ap answer_of e ∙ answer_back s

pub one_crc : OneCrc
one_crc l r s p q = p ∙ sym q

pub one_right : OneRight
one_right l r s p q = p ∙ sym q

pub one_rest : OneRest
one_rest line at r s p q =
    record { place = λ i. ((p.block ∙ sym q.block) i, (p.offset ∙ sym q.offset) i); symbols = p.holds ∙ sym q.holds }

pub one_writing : OneWriting
one_writing f before r s a b p q = (one_meaning_written r s (p.says ∙ sym q.says), p.leaves ∙ sym q.leaves)

pub one_reading : OneReading
one_reading line at before r s a b p q = (one_meaning_said r s (p.says ∙ sym q.says), p.leaves ∙ sym q.leaves)

pub one_first_reading : OneFirstReading
one_first_reading line before r s a b p q =
    let o = one_reading _ _ before r.answer s.answer a b p.reads q.reads in
    (o.0, one_rest line _ r.rest s.rest p.leaves q.leaves, o.1)
