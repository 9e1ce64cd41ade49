-- The walk over a record, symbol by symbol: what a record begins with stays when more symbols follow, unless it was too short.
-- Assumes nothing.
use mathlib.Core.Path.{◌≡◌, refl, sym, ap, ◌∙◌, subst}
use mathlib.Core.Bool.{Bool, true, false, cond}
use mathlib.Core.List.{List, [], ◌∷◌, ◌++◌, append_assoc}
use mathlib.Core.Logic.{◌⊎◌, inl, inr}
use Prim.Native.Nat.{ℕ, zero, suc, ◌+◌, ◌<◌, ◌≤◌}
use native.Mathlib.Omega.{arith}
use native.Mathlib.Decide.{dec_le, dec_lt}
use borrow.Author.Tests.{eq-eqb, ne_eqb}
use lib.ListN.{length, take, drop, length-append, take-append-drop, get_or-append}
use lib.Seq.{take-append-le, take-append_seam, drop-append-le, drop-append_seam}
use Rattle.line.specs.Symbol.{is_nibble}
use Rattle.line.specs.Kind.{set_of, carries}
use Rattle.line.specs.Frame.{Shape, drawn, symbols_of}
use Rattle.line.specs.Read.{Look, found, short, misfit, TakenSet, set_at, nibble_run, end_or, body_at, with_set, shape_behind, ReadFrame, First, frame, wrong_crc, too_short, no_frame, first_of, after_set, first}
use Rattle.line.specs.Taken.{TakenAs, straight}
use Rattle.line.proofs.Agreeing.{SetMeans, set_means, taken_set, set_stays}
use Rattle.line.proofs.Bodies.{run}
use Rattle.line.proofs.Shapes.{drawn_some}
use Rattle.line.proofs.Exactly.{sealed_shaped, straight_long, frame_exactly, too_short_exactly}
use Rattle.line.proofs.Tails.{frame_lies}
use Rattle.reader.specs.Walk.{ends, before, onward, walk}
use Rattle.reader.proofs.Walking.{walk_goes_on}

-- of two beginnings of a record the longer begins with the shorter
longer : (a b c d : List ℕ) → a ++ b ≡ c ++ d → length c ≤ length a → a ≡ c ++ drop (length c) a
longer a b c d e h =
    let n = length c in
    let front : take n a ≡ c = sym (take-append-le n a b h) ∙ ap (take n) e ∙ take-append_seam c d in
    sym (take-append-drop n a) ∙ ap (λ (x : List ℕ). x ++ drop n a) front

-- ---- nibbles that end inside a record end there whatever follows

run_stays : (m : ℕ) (l ys : List ℕ) → nibble_run m l < length l → nibble_run m (l ++ ys) ≡ nibble_run m l
unfolding nibble_run
run_stays zero l ys h = refl
run_stays (suc m) [] ys h = absurd (omega arith)
run_stays (suc m) (s ∷ l) ys h = go (is_nibble s) h (run_stays m l ys)
  where
    go : (b : Bool) → cond b (suc (nibble_run m l)) 0 < suc (length l) → (nibble_run m l < length l → nibble_run m (l ++ ys) ≡ nibble_run m l)
        → cond b (suc (nibble_run m (l ++ ys))) 0 ≡ cond b (suc (nibble_run m l)) 0
    go true h ih = ap suc (ih (omega arith))
    go false h ih = refl

-- what is behind a set is too short, or the same with more behind it
body_stays : (l ys : List ℕ) → (body_at l ≡ short (length l)) ⊎ (body_at (l ++ ys) ≡ body_at l)
unfolding body_at end_or
body_stays l ys =
    let n = nibble_run 68 l in
    elim (dec_lt n (length l)) [
      | yes h ↦
          let longer : n < length (l ++ ys) = omega (arith, length-append l ys) in
          inr
          (ap (λ (i : ℕ). end_or i (l ++ ys)) (run_stays 68 l ys h)
          ∙ simp (ne_eqb n (length (l ++ ys)) (λ e. omega arith), ne_eqb n (length l) (λ e. omega arith), get_or-append l ys 0 n h, take-append-le n l ys (omega arith)))
      | no h ↦ let e : n ≡ length l = omega (arith, (run 68 l).within) in inl (simp (eq-eqb n (length l) e) (ap short e))
    ]

shape_stays : (k : ℕ) (l ys : List ℕ) → (shape_behind k l ≡ short (4 + length l)) ⊎ (shape_behind k (l ++ ys) ≡ shape_behind k l)
unfolding shape_behind with_set
shape_stays k l ys = go (carries k) (body_stays l ys)
  where
    go : (b : Bool) → (body_at l ≡ short (length l)) ⊎ (body_at (l ++ ys) ≡ body_at l)
        → (cond b (with_set k (body_at l)) (found (record { kind = k; octets = [] })) ≡ short (4 + length l))
        ⊎ (cond b (with_set k (body_at (l ++ ys))) (found (record { kind = k; octets = [] })) ≡ cond b (with_set k (body_at l)) (found (record { kind = k; octets = [] })))
    go true (inl e) = inl (ap (with_set k) e)
    go true (inr e) = inr (ap (with_set k) e)
    go false e = inr refl

-- ---- what a record begins with, and more symbols

-- answers that are known whatever follows
abbrev pub Settled : First → Type 0
Settled (frame r) = Unit {0}
Settled (wrong_crc p) = Unit {0}
Settled (too_short p) = ⊥
Settled (no_frame p) = Unit {0}

-- with four symbols or more
long_stays : (l ys : List ℕ) → 4 ≤ length l → Settled (first l) → first (l ++ ys) ≡ first l
unfolding first after_set first_of
long_stays l ys h settled = ap (λ (r : Look TakenSet). after_set r (l ++ ys)) (set_stays l ys h) ∙ go (set_at l) settled
  where
    go : (r : Look TakenSet) → Settled (after_set r l) → after_set r (l ++ ys) ≡ after_set r l
    go (found t) s =
        ap (λ (x : List ℕ). first_of t.exact (shape_behind t.kind x)) (drop-append-le 4 l ys h)
        ∙ elim (shape_stays t.kind (drop 4 l) ys) [
          | inl e ↦ absurd (subst (λ (r : Look Shape). Settled (first_of t.exact r)) e s)
          | inr e ↦ ap (first_of t.exact) e
        ]
    go (short p) s = refl
    go (misfit p) s = refl

pub first_stays : (l ys : List ℕ) (f : First) → first l ≡ f → Settled f → first (l ++ ys) ≡ f
first_stays l ys f e settled =
    elim (dec_lt (length l) 4) [
      | yes h ↦ absurd (subst Settled (sym e ∙ (too_short_exactly l (length l)).1 (inl h, refl)) settled)
      | no h ↦ long_stays l ys (omega arith) (subst Settled (sym e) settled) ∙ e
    ]

-- a frame that ends before a symbol stands there without it
ended_before : (w : List ℕ) (x : ℕ) (r : ReadFrame) → first (w ++ (x ∷ [])) ≡ frame r → length (drawn r.shape) ≤ length w → first w ≡ frame r
unfolding symbols_of straight
ended_before w x r f few =
    let s = r.shape in
    let l = w ++ (x ∷ []) in
    let h = (frame_exactly l s r.exact).0 f in
    let i = h.1 in
    let same : length (drawn s) ≡ length (symbols_of i.frame) = ap (λ (t : Shape). length (drawn t)) i.seals in
    let some : 4 ≤ length w = omega (arith, same, drawn_some (sealed_shaped i.frame i.whole)) in
    let set : set_at w ≡ found (record { kind = s.kind; exact = r.exact }) = sym (set_stays w (x ∷ []) some) ∙ taken_set l s.kind r.exact h.0 in
    let taken : TakenAs w s.kind r.exact = subst (SetMeans w) set (set_means w) in
    let is : straight s.kind w ++ (x ∷ []) ≡ symbols_of i.frame ++ i.rest =
    append_assoc (set_of s.kind) (drop 4 w) (x ∷ []) ∙ ap (λ (y : List ℕ). set_of s.kind ++ y) (sym (drop-append-le 4 w (x ∷ []) some)) ∙ i.is in
    let long = straight_long w s.kind r.exact taken in
    (frame_exactly w s r.exact).1 (
      taken,
      record {
        frame = i.frame;
        whole = i.whole;
        seals = i.seals;
        rest = drop (length (symbols_of i.frame)) (straight s.kind w);
        is = longer (straight s.kind w) (x ∷ []) (symbols_of i.frame) i.rest is (omega (arith, same));
      },
    )

-- the frame that a symbol ends is all of the record, since none ended before it
pub frame_all : (w : List ℕ) (x q : ℕ) (r : ReadFrame) → first w ≡ too_short q → first (w ++ (x ∷ [])) ≡ frame r
    → length (drawn r.shape) ≡ length (w ++ (x ∷ []))
frame_all w x q r e f =
    let s = r.shape in
    let l = w ++ (x ∷ []) in
    let taken = ((frame_exactly l s r.exact).0 f).0 in
    let n = simp length-append at (ap length (frame_lies l r f)) in
    let m = length-append w (x ∷ []) in
    let long = straight_long l s.kind r.exact taken in
    elim (dec_le (length (drawn s)) (length w)) [
      | yes k ↦
          let z : ◌≡◌ {A = First} (too_short q) (frame r) = sym e ∙ ended_before w x r f k in
          let zero : ◌≡◌ {A = ℕ} 0 1 = cc in
          absurd (omega arith)
      | no k ↦ omega arith
    ]

-- ---- the walk

walk_by : (l : List ℕ) (f : First) → first l ≡ f → walk l ≡ onward l f walk
walk_by l f e = walk_goes_on l ∙ ap (λ (a : First). onward l a walk) e

pub walk_frame : (l ys : List ℕ) (r : ReadFrame) → first l ≡ frame r → length (drawn r.shape) ≡ length l → walk (l ++ ys) ≡ before r (walk ys)
unfolding onward
walk_frame l ys r e long =
    let rest : drop (length (drawn r.shape)) (l ++ ys) ≡ ys = ap (λ (n : ℕ). drop n (l ++ ys)) long ∙ drop-append_seam l ys in
    walk_by (l ++ ys) (frame r) (first_stays l ys (frame r) e tt) ∙ ap (λ (x : List ℕ). before r (walk x)) rest

pub walk_none : (l ys : List ℕ) (p : ℕ) → first l ≡ no_frame p → walk (l ++ ys) ≡ ends (l ++ ys) (no_frame p)
unfolding onward
walk_none l ys p e = walk_by (l ++ ys) (no_frame p) (first_stays l ys (no_frame p) e tt)

pub walk_wrong : (l ys : List ℕ) (p : ℕ) → first l ≡ wrong_crc p → walk (l ++ ys) ≡ ends (l ++ ys) (wrong_crc p)
unfolding onward
walk_wrong l ys p e = walk_by (l ++ ys) (wrong_crc p) (first_stays l ys (wrong_crc p) e tt)

pub walk_short : (l : List ℕ) (p : ℕ) → first l ≡ too_short p → walk l ≡ ends l (too_short p)
unfolding onward
walk_short l p e = walk_by l (too_short p) e
