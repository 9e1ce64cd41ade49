-- The bench table, by one computed test.
-- Assumes nothing.
use mathlib.Core.Path.{◌≡◌, refl, ap, ap₂}
use mathlib.Core.Bool.{Bool, true, false, ◌&&◌, and-eq-true_iff}
use mathlib.Core.List.{List, [], ◌∷◌}
use Prim.Native.Nat.{ℕ}
use native.Mathlib.Omega.{arith}
use borrow.Author.Tests.{eqb-true}
use lib.Dec.{eqb}
use lib.ListN.{length}
use Rattle.line.specs.Frame.{joined}
use Rattle.line.specs.Read.{first}
use Rattle.line.specs.Reader.{Said, said_no, no_at, was_read, says_of}
use Rattle.machine.specs.Step.{step, after, replies}
use Rattle.machine.specs.State.{power_up}
use Rattle.machine.specs.Queue.{same_list}
use Rattle.machine.specs.Events.{Reply, done, value, no}
use Rattle.machine.specs.Bench.{Case, device, reader, all_taken, CaseHolds, AllHold, cases, Benched}
use Rattle.machine.proofs.Computing.{computed}
use Rattle.machine.proofs.Spelling.{same_list_lem}

-- ---- the test

same_reply : Reply → Reply → Bool
same_reply done done = true
same_reply done (value v) = false
same_reply done (no n) = false
same_reply (value u) done = false
same_reply (value u) (value v) = eqb u v
same_reply (value u) (no n) = false
same_reply (no m) done = false
same_reply (no m) (value v) = false
same_reply (no m) (no n) = eqb m n

-- of two answers with a place; no other stands in the table
same_said : Said → Said → Bool
same_said (no_at m p) (no_at n q) = eqb m n && eqb p q
same_said (no_at m p) (said_no n) = false
same_said (no_at m p) (was_read k exact n q) = false
same_said (said_no n) t = false
same_said (was_read k exact n q) t = false

holds : Case → Bool
holds (device given e r symbols tx rx) =
    all_taken (replies power_up given)
    && (same_reply (step (after power_up given) e).reply r
    && (same_list (joined (step (after power_up given) e).frames) symbols
    && (same_list (step (after power_up given) e).state.tx tx && eqb (length (step (after power_up given) e).state.rx) rx)))
holds (reader line said) = same_said (says_of 0 (first line)) said

all_hold : List Case → Bool
all_hold [] = true
all_hold (c ∷ cs) = holds c && all_hold cs

-- ---- what it shows

same_reply_lem : (r s : Reply) → same_reply r s ≡ true → r ≡ s
unfolding same_reply
same_reply_lem done done e = refl
same_reply_lem done (value v) e = let z : ◌≡◌ {A = ℕ} 0 1 = cc in absurd (omega arith)
same_reply_lem done (no n) e = let z : ◌≡◌ {A = ℕ} 0 1 = cc in absurd (omega arith)
same_reply_lem (value u) done e = let z : ◌≡◌ {A = ℕ} 0 1 = cc in absurd (omega arith)
same_reply_lem (value u) (value v) e = ap value (eqb-true u v e)
same_reply_lem (value u) (no n) e = let z : ◌≡◌ {A = ℕ} 0 1 = cc in absurd (omega arith)
same_reply_lem (no m) done e = let z : ◌≡◌ {A = ℕ} 0 1 = cc in absurd (omega arith)
same_reply_lem (no m) (value v) e = let z : ◌≡◌ {A = ℕ} 0 1 = cc in absurd (omega arith)
same_reply_lem (no m) (no n) e = ap no (eqb-true m n e)

same_said_lem : (r s : Said) → same_said r s ≡ true → r ≡ s
unfolding same_said
same_said_lem (no_at m p) (no_at n q) e = let b = (and-eq-true_iff (eqb m n) (eqb p q)).0 e in ap₂ no_at (eqb-true m n b.0) (eqb-true p q b.1)
same_said_lem (no_at m p) (said_no n) e = let z : ◌≡◌ {A = ℕ} 0 1 = cc in absurd (omega arith)
same_said_lem (no_at m p) (was_read k exact n q) e = let z : ◌≡◌ {A = ℕ} 0 1 = cc in absurd (omega arith)
same_said_lem (said_no n) t e = let z : ◌≡◌ {A = ℕ} 0 1 = cc in absurd (omega arith)
same_said_lem (was_read k exact n q) t e = let z : ◌≡◌ {A = ℕ} 0 1 = cc in absurd (omega arith)

shown : (c : Case) → holds c ≡ true → CaseHolds c
unfolding holds
shown (device given e r symbols tx rx) h =
    let a = (and-eq-true_iff (all_taken (replies power_up given)) _).0 h in
    let b = (and-eq-true_iff (same_reply (step (after power_up given) e).reply r) _).0 a.1 in
    let c = (and-eq-true_iff (same_list (joined (step (after power_up given) e).frames) symbols) _).0 b.1 in
    let d = (and-eq-true_iff (same_list (step (after power_up given) e).state.tx tx) _).0 c.1 in
    (a.0, same_reply_lem _ r b.0, same_list_lem _ symbols c.0, same_list_lem _ tx d.0, eqb-true _ rx d.1)
shown (reader line said) h = same_said_lem _ said h

all_shown : (cs : List Case) → all_hold cs ≡ true → AllHold cs
unfolding all_hold
all_shown [] h = tt
all_shown (c ∷ cs) h = let b = (and-eq-true_iff (holds c) (all_hold cs)).0 h in (shown c b.0, all_shown cs b.1)

-- ---- the table

pub benched : Benched
unfolding computed same_reply same_said holds all_hold
benched = all_shown cases refl
