-- A frame takes four symbols or more, so a walk of as many steps as the record has symbols comes to where there is none.
-- Assumes nothing.
use mathlib.Core.Path.{◌≡◌, refl, sym, ap, ◌∙◌, subst}
use mathlib.Core.List.{List, [], ◌∷◌, ◌++◌, append_assoc}
use mathlib.Core.Logic.{inl, inr}
use Prim.Native.Nat.{ℕ, zero, suc, ◌<◌, ◌≤◌}
use native.Mathlib.Omega.{arith}
use lib.ListN.{length, drop, length-append}
use lib.Seq.{drop-append_seam}
use Rattle.line.specs.Frame.{Shape, drawn, sealed, symbols_of, joined}
use Rattle.line.specs.Read.{set_at, ReadFrame, exact_frame, First, frame, wrong_crc, too_short, no_frame, after_set, first}
use Rattle.line.specs.Taken.{Exactly, TakenAs}
use Rattle.line.proofs.Shapes.{drawn_some}
use Rattle.line.proofs.Exactly.{sealed_shaped, reads_back, exact_stays, straight_long, frame_exactly}
use Rattle.line.proofs.Tails.{frame_lies}
use Rattle.reader.specs.Walk.{Walked, ends, before, onward, walk_for, walk, drawn_all, AllExact, Covers}
use Rattle.reader.specs.Theorems.{NoMore, WalkGoesOn, WalkEnds, WalkCovers, WalkKeeps, WalksFrames}

-- ---- a frame that was read stands in the record

-- what is left behind it
abbrev left : List ℕ → ReadFrame → List ℕ
left line r = drop (length (drawn r.shape)) line

shorter : (line : List ℕ) (r : ReadFrame) → first line ≡ frame r → length (left line r) < length line
unfolding symbols_of
shorter line r e =
    let h = (frame_exactly line r.shape r.exact).0 e in
    let i = h.1 in
    let some = subst (λ (t : Shape). 4 ≤ length (drawn t)) (sym i.seals) (drawn_some (sealed_shaped i.frame i.whole)) in
    let long = straight_long line r.shape.kind r.exact h.0 in
    let n = sym (length-append (drawn r.shape) (left line r)) ∙ ap length (frame_lies line r e) in
    omega (arith, n, some)

-- ---- as many steps as symbols are enough

onward_same : (line : List ℕ) (f : First) (g k : List ℕ → Walked) → first line ≡ f
    → ((r : ReadFrame) → first line ≡ frame r → g (left line r) ≡ k (left line r)) → onward line f g ≡ onward line f k
unfolding onward
onward_same line (frame r) g k e same = ap (before r) (same r e)
onward_same line (wrong_crc p) g k e same = refl
onward_same line (too_short p) g k e same = refl
onward_same line (no_frame p) g k e same = refl

none_left : (line : List ℕ) (f : First) (g : List ℕ → Walked) → first line ≡ f → length line ≤ 0 → ends line f ≡ onward line f g
unfolding onward
none_left line (frame r) g e h = absurd (omega (arith, shorter line r e))
none_left line (wrong_crc p) g e h = refl
none_left line (too_short p) g e h = refl
none_left line (no_frame p) g e h = refl

enough : (n m : ℕ) (line : List ℕ) → length line ≤ n → length line ≤ m → walk_for n line ≡ walk_for m line
unfolding walk_for
enough zero zero line h k = refl
enough zero (suc m) line h k = none_left line (first line) (walk_for m) refl h
enough (suc n) zero line h k = sym (none_left line (first line) (walk_for n) refl k)
enough (suc n) (suc m) line h k =
    onward_same line (first line) (walk_for n) (walk_for m) refl
    (λ r e. enough n m (left line r) (omega (arith, shorter line r e)) (omega (arith, shorter line r e)))

pub walk_goes_on : WalkGoesOn
unfolding walk walk_for
walk_goes_on line =
    enough (length line) (suc (length line)) line (omega arith) (omega arith)
    ∙ onward_same line (first line) (walk_for (length line)) walk refl
    (λ r e. enough (length line) (length (left line r)) (left line r) (omega (arith, shorter line r e)) (omega arith))

-- ---- what holds of each step holds of the walk

module _ (P : List ℕ → Walked → Type 0)
    (on : (line : List ℕ) (r : ReadFrame) (w : Walked) → first line ≡ frame r → P (left line r) w → P line (before r w))
    (end : (line : List ℕ) (f : First) → first line ≡ f → NoMore f → P line (ends line f)) where
  step : (line : List ℕ) (f : First) (g : List ℕ → Walked) → first line ≡ f
      → ((r : ReadFrame) → first line ≡ frame r → P (left line r) (g (left line r))) → P line (onward line f g)
  unfolding onward
  step line (frame r) g e each = on line r (g (left line r)) e (each r e)
  step line (wrong_crc p) g e each = end line (wrong_crc p) e (record { place = p; is = inr (inr refl) })
  step line (too_short p) g e each = end line (too_short p) e (record { place = p; is = inr (inl refl) })
  step line (no_frame p) g e each = end line (no_frame p) e (record { place = p; is = inl refl })

  walked : (n : ℕ) (line : List ℕ) → length line ≤ n → P line (walk_for n line)
  unfolding walk_for
  walked zero line h =
      subst (P line) (sym (none_left line (first line) (walk_for 0) refl h))
      (step line (first line) (walk_for 0) refl (λ r e. absurd (omega (arith, shorter line r e))))
  walked (suc n) line h =
      step line (first line) (walk_for n) refl (λ r e. walked n (left line r) (omega (arith, shorter line r e)))

pub walk_ends : WalkEnds
unfolding walk ends before
walk_ends line =
    walked (λ l w. NoMore w.ended × (w.ended ≡ first w.rest))
    (λ l s w e p. p)
    (λ l f e no. (no, sym e))
    (length line) line (omega arith)

pub walk_covers : WalkCovers
unfolding walk ends before
walk_covers line =
    walked (λ l w. Covers w.frames w.rest l)
    (λ l r w e p. (((frame_exactly l r.shape r.exact).0 e).0, frame_lies l r e, p))
    (λ l f e no. refl)
    (length line) line (omega arith)

-- with exact sets the record is not another
exact_all : (rs : List ReadFrame) (rest line : List ℕ) → Covers rs rest line → AllExact rs → drawn_all rs ++ rest ≡ line
unfolding drawn_all
exact_all [] rest line h x = sym h
exact_all (r ∷ rs) rest line h x =
    let k = r.shape.kind in
    let set : Exactly line k = subst (TakenAs line k) x.0 h.0 in
    append_assoc (drawn r.shape) (drawn_all rs) rest
    ∙ ap (λ (l : List ℕ). drawn r.shape ++ l) (exact_all rs rest (left line r) h.2 x.1)
    ∙ h.1
    ∙ exact_stays line k set

pub walk_keeps : WalkKeeps
walk_keeps line x = exact_all (walk line).frames (walk line).rest line (walk_covers line) x

-- ---- whole frames

nothing : first [] ≡ too_short 0
unfolding set_at after_set first
nothing = refl

pub walks_frames : WalksFrames
unfolding walk walk_for ends before onward joined symbols_of
walks_frames [] w = ap (ends []) nothing
walks_frames (f ∷ fs) w =
    walk_goes_on (joined (f ∷ fs))
    ∙ ap (λ (x : First). onward (joined (f ∷ fs)) x walk) (reads_back f (joined fs) w.0)
    ∙ ap (λ (l : List ℕ). before (exact_frame (sealed f)) (walk l)) (drop-append_seam (symbols_of f) (joined fs))
    ∙ ap (before (exact_frame (sealed f))) (walks_frames fs w.1)
