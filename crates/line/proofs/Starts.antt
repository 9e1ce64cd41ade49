-- Which ordered set begins a list, exactly.
-- Assumes nothing.
use mathlib.Core.Path.{◌≡◌, refl, sym, ap, ◌∙◌}
use mathlib.Core.Bool.{Bool, true, false, cond}
use mathlib.Core.List.{List, [], ◌∷◌, ◌++◌}
use mathlib.Core.Option.{some}
use Prim.Native.Nat.{ℕ, zero, suc, ◌+◌, ◌<◌}
use native.Mathlib.Omega.{arith}
use borrow.Author.Tests.{eqb-true}
use lib.Dec.{eqb, eqb→eq}
use lib.ListN.{length, take, drop, get_or, take-append-drop}
use lib.Seq.{take_at, drop_at}
use Rattle.line.proofs.Table.{at}
use Rattle.line.specs.Kind.{ordered_sets, kinds, set_of, common, kind_from}
use Rattle.line.specs.Taken.{Exactly}

-- ---- a list that has all of a set in common with it

in_common : (s l : List ℕ) → common s l ≡ length s → l ≡ s ++ drop (length s) l
unfolding common
in_common [] l e = refl
in_common (x ∷ xs) [] e = absurd (omega arith)
in_common (x ∷ xs) (y ∷ ys) e = go (eqb x y) refl e (in_common xs ys)
  where
    go : (b : Bool) → eqb x y ≡ b → cond b (suc (common xs ys)) 0 ≡ suc (length xs) → (common xs ys ≡ length xs → ys ≡ xs ++ drop (length xs) ys)
        → y ∷ ys ≡ (x ∷ xs) ++ drop (length xs) ys
    go true t e ih =
        let same = eqb-true x y t in
        let rest = ih (omega arith) in
        cc
    go false t e ih = absurd (omega arith)

-- ---- the first of some sets that begins a list

-- set i of ss is the one that begins l, and j its kind
record FoundAt (k : ℕ) (ss : List (List ℕ)) (l : List ℕ) (j : ℕ) : Type 0 where
  i : ℕ
  within : i < length ss
  kind_is : j ≡ k + i
  four : common (get_or ss i []) l ≡ 4

kind_some : (k : ℕ) (ss : List (List ℕ)) (l : List ℕ) (j : ℕ) → kind_from k ss l ≡ some j → FoundAt k ss l j
unfolding kind_from
kind_some k [] l j e = let z : ◌≡◌ {A = ℕ} 0 1 = cc in absurd (omega arith)
kind_some k (s ∷ ss) l j e = go (eqb (common s l) 4) refl e (kind_some (suc k) ss l j)
  where
    go : (b : Bool) → eqb (common s l) 4 ≡ b → cond b (some k) (kind_from (suc k) ss l) ≡ some j
        → (kind_from (suc k) ss l ≡ some j → FoundAt (suc k) ss l j) → FoundAt k (s ∷ ss) l j
    go true t q ih =
        let same : k ≡ j = cc in
        record { i = 0; within = omega arith; kind_is = omega arith; four = eqb-true (common s l) 4 t }
    go false t q ih =
        let r = ih q in
        let w = r.within in
        let e = r.kind_is in
        record { i = suc r.i; within = omega arith; kind_is = omega arith; four = r.four }

-- ---- the ordered sets

is_four : ℕ → Bool
is_four k = eqb (length (set_of k)) 4

pub set_length : (k : ℕ) → k < kinds → length (set_of k) ≡ 4
unfolding set_of is_four
set_length k h = eqb→eq (length (set_of k)) 4 (at is_four kinds tt k h)

-- a set's kind is found, whatever follows it
pub set_kind : (k : ℕ) (x : List ℕ) → k < kinds → kind_from 0 ordered_sets (set_of k ++ x) ≡ some k
unfolding kind_from common set_of
set_kind zero x h = refl
set_kind (suc zero) x h = refl
set_kind (suc (suc zero)) x h = refl
set_kind (suc (suc (suc zero))) x h = refl
set_kind (suc (suc (suc (suc zero)))) x h = refl
set_kind (suc (suc (suc (suc (suc zero))))) x h = refl
set_kind (suc (suc (suc (suc (suc (suc k)))))) x h = absurd (omega arith)

-- and the kind that is found has its set there
pub kind_set : (l : List ℕ) (k : ℕ) → kind_from 0 ordered_sets l ≡ some k → Exactly l k
unfolding set_of
kind_set l k e =
    let r = kind_some 0 ordered_sets l k e in
    let w = r.within in
    let kind : r.i ≡ k = omega (arith, r.kind_is) in
    let h : k < kinds = omega arith in
    let four : common (set_of k) l ≡ 4 = rw kind at r.four in
    let is = in_common (set_of k) l (four ∙ sym (set_length k h)) in
    record { kind = h; same = ap (take 4) is ∙ take_at (set_of k) (drop (length (set_of k)) l) 4 (set_length k h) }

-- ---- a list that begins with a set, and what is behind it

pub exact_is : (l : List ℕ) (k : ℕ) → Exactly l k → l ≡ set_of k ++ drop 4 l
exact_is l k e = sym (take-append-drop 4 l) ∙ ap (λ (x : List ℕ). x ++ drop 4 l) e.same

pub exact_kind : (l : List ℕ) (k : ℕ) → Exactly l k → kind_from 0 ordered_sets l ≡ some k
exact_kind l k e = ap (kind_from 0 ordered_sets) (exact_is l k e) ∙ set_kind k (drop 4 l) e.kind

pub set_there : (k : ℕ) (x : List ℕ) → k < kinds → Exactly (set_of k ++ x) k
set_there k x h = record { kind = h; same = take_at (set_of k) x 4 (set_length k h) }

pub drop_set : (k : ℕ) (x : List ℕ) → k < kinds → drop 4 (set_of k ++ x) ≡ x
drop_set k x h = drop_at (set_of k) x 4 (set_length k h)
