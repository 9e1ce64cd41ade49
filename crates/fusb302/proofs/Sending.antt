-- Frames that are sent: written whole, a header alone, and the message that a queue spells.
-- Assumes nothing.
use Rattle.std.specs.Prelude as rust
use Rattle.std.specs.Prelude.{Some, None}
use mathlib.Core.Path.{◌≡◌, refl, sym, ap, ◌∙◌}
use mathlib.Core.Bool.{false}
use mathlib.Core.List.{List, [], ◌∷◌, append-nil}
use mathlib.Core.Option.{none, some}
use Prim.Native.Nat.{ℕ, ◌<◌, ◌≤◌}
use native.Mathlib.Omega.{arith}
use borrow.Author.Tests.{lt-ltb, le-ltb}
use lib.ListN.{length}
use Rattle.std.specs.Prelude.{Result, Ok, Err}
use Rattle.line.specs.declared.write.WriteError.{WriteError}
use Rattle.line.specs.declared.kind.Kind.{Kind}
use Rattle.line.specs.declared.kind.Kind.TheVariants as line
use Rattle.line.specs.Numbered.{sop_number, kind_number}
use Rattle.line.specs.Kind.{kinds, sop_kinds, carries}
use Rattle.line.specs.Frame.{Frame, symbols_of, joined}
use Rattle.line.specs.Refusal.{first_no}
use Rattle.line.specs.Write.{frame_room, wrong_length, writer_rows, wrote, lent, Writes}
use Rattle.line.proofs.Writing.{carrying}
use Rattle.line.proofs.Outcomes.{one_meaning_written}
use Rattle.machine.specs.Queue.{spelt}
use Rattle.fusb302.specs.declared.queue.Queue.{Queue}
use Rattle.fusb302.specs.declared.queue.Message.{Message}
use Rattle.fusb302.specs.Queued.{queued, spelt_as}
use Rattle.fusb302.specs.Serves.{Sends}
use Rattle.fusb302.proofs.Queueing.{sop_below}

-- ---- a whole frame

-- as many octets as the writer takes: of a message, and of a Hard Reset
pub fits_message : (k n : ℕ) → k < sop_kinds → 2 ≤ n → n ≤ 30 → wrong_length k n ≡ false
unfolding wrong_length
fits_message k n h lo hi = simp (carrying k h, le-ltb n 2 lo, le-ltb 30 n hi)

pub fits_reset : wrong_length 5 0 ≡ false
unfolding wrong_length carries
fits_reset = refl

below_kinds : (k : Kind) → kind_number k < kinds
below_kinds (line.Message s) = omega (arith, sop_below s)
below_kinds line.HardReset = omega arith

-- written where there is room for any
module _ (k : Kind) (l before : List ℕ) (r : Result ℕ WriteError) (after : List ℕ) (fits : wrong_length (kind_number k) (length l) ≡ false) (room : frame_room ≤ length before)
    (w : Writes (record { kind = kind_number k; octets = l }) before r after) where
  abbrev f : Frame
  f = record { kind = kind_number k; octets = l }

  accepts : first_no (writer_rows f (length before)) ≡ none
  unfolding first_no
  accepts = simp (le-ltb (length before) frame_room room, lt-ltb (kind_number k) kinds (below_kinds k), fits)

  pub put_said : r ≡ Ok (length (symbols_of f))
  unfolding wrote
  put_said = one_meaning_written r (Ok (length (symbols_of f))) (w.says ∙ ap (λ o. wrote o f) accepts)

  pub put_sent : (n : ℕ) → r ≡ Ok n → Sends (f ∷ []) before n after
  unfolding lent joined
  put_sent n e =
      let all = append-nil (symbols_of f) in
      let said = put_said in
      let long : n ≡ length (symbols_of f) = cc in
      record { count = rw all long; lent = rw all (w.leaves ∙ ap (λ o. lent o f before) accepts) }

pub sends_none : (before : List ℕ) → Sends [] before 0 before
unfolding joined
sends_none before = record { count = refl; lent = refl }

-- ---- the message of a queue

-- what was answered of it
module _ (tx : Queue) (r : rust.Option Message) (is : spelt_as r ≡ spelt (queued tx)) (m : Message) (e : r ≡ Some m) where
  pub by_answer : spelt (queued tx) ≡ some (record { kind = sop_number m.kind; octets = m.octets.now })
  by_answer = sym (rw e at is)
