-- A frame that the reader answered stands in the record, and what is behind it is the rest.
-- Assumes nothing.
use mathlib.Core.Path.{◌≡◌, refl, sym, ap, ap₂, ◌∙◌, subst}
use mathlib.Core.Bool.{Bool, true, false, cond}
use mathlib.Core.List.{List, ◌++◌}
use Prim.Native.Nat.{ℕ, ◌+◌, ◌-◌, ◌<◌, ◌≤◌}
use native.Mathlib.Omega.{arith}
use borrow.Author.Tests.{le-ltb}
use lib.Dec.{ltb}
use lib.ListN.{length, take, drop}
use lib.Seq.{drop-append_seam, drop-drop, take_at}
use denote.Ref.{Bor}
use Rattle.std.specs.Prelude.{Result, Err}
use Rattle.line.specs.declared.read.FoundFrame.{FoundFrame}
use Rattle.line.specs.declared.read.ReadError.{ReadError}
use Rattle.line.specs.declared.read.ReadError.TheVariants.{SmallBuffer, NoFrame, TooShort, WrongCrc}
use Rattle.line.specs.Numbered.{kind_number}
use Rattle.line.specs.declared.read.FirstRead.{FirstRead}
use Rattle.line.specs.Kind.{kinds, set_of}
use Rattle.line.specs.Frame.{Shape, drawn, sealed, symbols_of}
use Rattle.line.specs.Read.{ReadFrame, exact_frame, First, frame, wrong_crc, too_short, no_frame, first}
use Rattle.line.specs.Taken.{TakenAs, straight}
use Rattle.line.specs.Reader.{octet_room, was_read, said_no, said, says_of, filled, Tells, Reads, behind, span, IsTail, ReadsFirst}
use Rattle.line.specs.Theorems.{LeavesRest, FirstReadBack}
use Rattle.line.proofs.Starts.{drop_set}
use Rattle.line.proofs.Agreeing.{taken_kind}
use Rattle.line.proofs.Shapes.{drawn_some}
use Rattle.line.proofs.Exactly.{sealed_shaped, reads_back, frame_exactly}

-- from the fourth symbol on the record is the same
straight_rest : (line : List ℕ) (k n : ℕ) → k < kinds → 4 ≤ n → drop n (straight k line) ≡ drop n line
unfolding straight
straight_rest line k n h four =
    let there : 4 + (n - 4) ≡ n = omega arith in
    let e : drop 4 (set_of k ++ drop 4 line) ≡ drop 4 line = drop_set k (drop 4 line) h in
    subst (λ (i : ℕ). drop i (set_of k ++ drop 4 line) ≡ drop i line) there
    (sym (drop-drop (n - 4) 4 (set_of k ++ drop 4 line)) ∙ ap (drop (n - 4)) e ∙ drop-drop (n - 4) 4 line)

-- the symbols of the first frame, and what is behind them: the record with the set that was taken
pub frame_lies : (line : List ℕ) (r : ReadFrame) → first line ≡ frame r
    → drawn r.shape ++ drop (length (drawn r.shape)) line ≡ straight r.shape.kind line
unfolding symbols_of
frame_lies line r e =
    let s = r.shape in
    let h = (frame_exactly line s r.exact).0 e in
    let i = h.1 in
    let shaped = sealed_shaped i.frame i.whole in
    let is : straight s.kind line ≡ drawn s ++ i.rest = i.is ∙ ap (λ (t : Shape). drawn t ++ i.rest) (sym i.seals) in
    let some : 4 ≤ length (drawn s) = subst (λ (t : Shape). 4 ≤ length (drawn t)) (sym i.seals) (drawn_some shaped) in
    let rest : drop (length (drawn s)) line ≡ i.rest =
    sym (straight_rest line s.kind (length (drawn s)) (taken_kind line s.kind r.exact h.0) some)
    ∙ ap (drop (length (drawn s))) is
    ∙ drop-append_seam (drawn s) i.rest in
    ap (λ (x : List ℕ). drawn s ++ x) rest ∙ sym is

-- the frame that a frame's answer is of
record Told (line : List ℕ) (at kind : ℕ) (exact : Bool) (count place : ℕ) (before after : List ℕ) : Type 0 where
  read : ReadFrame
  stands : first line ≡ frame read
  says : was_read kind exact count place ≡ says_of at (frame read)
  leaves : after ≡ filled (frame read) before

told : (line : List ℕ) (at kind : ℕ) (exact : Bool) (count place : ℕ) (before after : List ℕ) (b : Bool) (f : First) → first line ≡ f
    → was_read kind exact count place ≡ cond b (said_no 12) (says_of at f) → after ≡ cond b before (filled f before)
    → Told line at kind exact count place before after
unfolding says_of
told line at kind exact count place before after true f e p q = let z : ◌≡◌ {A = ℕ} 0 1 = cc in absurd (omega arith)
told line at kind exact count place before after false (frame r) e p q = record { read = r; stands = e; says = p; leaves = q }
told line at kind exact count place before after false (wrong_crc w) e p q = let z : ◌≡◌ {A = ℕ} 0 1 = cc in absurd (omega arith)
told line at kind exact count place before after false (too_short w) e p q = let z : ◌≡◌ {A = ℕ} 0 1 = cc in absurd (omega arith)
told line at kind exact count place before after false (no_frame w) e p q = let z : ◌≡◌ {A = ℕ} 0 1 = cc in absurd (omega arith)

pub leaves_rest : LeavesRest
unfolding says_of filled
leaves_rest line rest at found before after r t =
    let kind = kind_number found.kind in
    let exact = found.exact in
    let count = found.count in
    let next = found.next in
    let l = drop at line.now in
    let w = told l at kind exact count next.at before after (ltb (length before) octet_room) (first l) refl r.says r.leaves in
    let s = w.read.shape in
    let says : was_read kind exact count next.at ≡ was_read s.kind w.read.exact (length s.octets) (at + length (drawn s)) = w.says in
    let same_kind : kind ≡ s.kind = cc in
    let same-mark : exact ≡ w.read.exact = cc in
    let long : length s.octets ≡ count = cc in
    let place : next.at ≡ at + length (drawn s) = cc in
    let octets : take count after ≡ s.octets = ap (take count) w.leaves ∙ take_at s.octets (drop (length s.octets) before) count long in
    let behind : rest.now ≡ drop (length (drawn s)) l =
    t.holds ∙ ap (λ (n : ℕ). drop n line.now) place ∙ sym (drop-drop (length (drawn s)) at line.now) in
    let taken : TakenAs l s.kind w.read.exact = ((frame_exactly l s w.read.exact).0 w.stands).0 in (
      subst (λ (k : ℕ). TakenAs l k exact) (sym same_kind) (subst (TakenAs l s.kind) (sym same-mark) taken),
      ap₂ (λ (a b : List ℕ). a ++ b) (λ i. drawn (record { kind = same_kind i; octets = octets i })) behind
          ∙ frame_lies l w.read w.stands
          ∙ ap (λ (k : ℕ). straight k l) (sym same_kind),
    )

-- ---- the tail that an answer leads to

-- a refusal names no other place than the record's beginning
pub all_left : (line : Bor (List ℕ)) (e : ReadError) → IsTail line (behind 0 (said (Err e))) line
unfolding behind
all_left line SmallBuffer = record { block = refl; offset = omega arith; holds = refl }
all_left line (NoFrame p) = record { block = refl; offset = omega arith; holds = refl }
all_left line (TooShort p) = record { block = refl; offset = omega arith; holds = refl }
all_left line (WrongCrc p) = record { block = refl; offset = omega arith; holds = refl }

-- the place that the first frame's answer leads to
behind_first : (f : First) → behind 0 (says_of 0 f) ≡ span f
unfolding behind says_of span
behind_first (frame r) = omega arith
behind_first (wrong_crc p) = refl
behind_first (too_short p) = refl
behind_first (no_frame p) = refl

behind_said : (b : Bool) (f : First) → behind 0 (cond b (said_no 12) (says_of 0 f)) ≡ cond b 0 (span f)
unfolding behind
behind_said true f = refl
behind_said false f = behind_first f

pub first_read : (line : Bor (List ℕ)) (before : List ℕ) (r : FirstRead) (after : List ℕ)
    → Reads line.now 0 before r.answer after → IsTail line (behind 0 (said r.answer)) r.rest → ReadsFirst line before r after
first_read line before r after e t =
    let at : behind 0 (said r.answer) ≡ cond (ltb (length before) octet_room) 0 (span (first line.now)) =
    ap (behind 0) e.says ∙ behind_said (ltb (length before) octet_room) (first line.now) in
    record { reads = e; leaves = subst (λ (n : ℕ). IsTail line n r.rest) at t }

-- ---- with room for any frame

pub with_room : (line : List ℕ) (at : ℕ) (b : List ℕ) (r : Result FoundFrame ReadError) (a : List ℕ) → octet_room ≤ length b → Reads line at b r a
    → Tells at (first (drop at line)) b r a
with_room line at b r a h p =
    let t = le-ltb (length b) octet_room h in
    let f = first (drop at line) in
    record {
      says = p.says ∙ ap (λ (x : Bool). cond x (said_no 12) (says_of at f)) t;
      leaves = p.leaves ∙ ap (λ (x : Bool). cond x b (filled f b)) t;
    }

pub first_read_back : FirstReadBack
unfolding span symbols_of
first_read_back f x line before r after w is room e =
    let got : first line.now ≡ frame (exact_frame (sealed f)) = ap first is ∙ reads_back f x w in
    let told = with_room line.now 0 before r.answer after room e.reads in
    let n : cond (ltb (length before) octet_room) 0 (span (first line.now)) ≡ length (symbols_of f) = simp (le-ltb (length before) octet_room room) (ap span got) in (
      subst (λ (y : First). Tells 0 y before r.answer after) got told,
      e.leaves.holds ∙ ap (λ (k : ℕ). drop k line.now) n ∙ ap (drop (length (symbols_of f))) is ∙ drop-append_seam (symbols_of f) x,
    )
