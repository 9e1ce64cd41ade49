-- Four symbols that agree in three places with several kinds, and one changed symbol in a set.
-- Assumes nothing.
use mathlib.Core.Path.{◌≡◌, refl, sym, ap, ◌∙◌, subst}
use mathlib.Core.Bool.{Bool, true, false, ◌&&◌, ◌||◌}
use mathlib.Core.List.{List, [], ◌∷◌, ◌++◌}
use mathlib.Core.Logic.{◌⊎◌, inl, inr}
use Prim.Native.Nat.{ℕ, ◌<◌, ◌≤◌}
use native.Mathlib.Omega.{arith}
use native.Mathlib.Decide.{ℕ_discrete}
use borrow.Author.Tests.{eqb-true, leb-true}
use lib.Dec.{T, eqb, leb, eqb→eq, leb→le}
use lib.ListN.{length, take, drop, get_or, set, length-set, length-append, take-append-drop, get_or-append}
use lib.Seq.{ext_get_or, get_or-take, get_or-set_same, get_or-set_other, length-take-le}
use Rattle.line.proofs.Table.{all, head_of, tail_of, at}
use Rattle.line.proofs.Starts.{set_length, exact_is}
use Rattle.line.proofs.Agreeing.{agree_all, all_agree, less_one, agree_front, three_is, three_or, counted_doubtful, agreeing_front, exact_long}
use Rattle.line.proofs.Exactly.{no_frame_exactly}
use Rattle.line.specs.Kind.{ordered_sets, kinds, set_of}
use Rattle.line.specs.Read.{agree, agreeing}
use Rattle.line.specs.Taken.{Exactly, InThree, Nearly, TakenAs, Untaken, Doubtful, doubtful_sets, Among}
use Rattle.line.specs.Theorems.{DoubtfulExactly, DoubtfulRefused, OneChanged}

-- ---- any two sets differ in two places or more

is_apart : ℕ → ℕ → Bool
is_apart j k = eqb j k || leb (agree (set_of j) (set_of k)) 2

apart : (j k : ℕ) → j < kinds → k < kinds → (j ≡ k → ⊥) → agree (set_of j) (set_of k) ≤ 2
unfolding is_apart agree set_of
apart j k h i ne = go (eqb j k) (leb (agree (set_of j) (set_of k)) 2) refl refl (at (is_apart j) kinds (at (λ n. all (is_apart n) kinds) kinds tt j h) k i)
  where
    go : (a b : Bool) → eqb j k ≡ a → leb (agree (set_of j) (set_of k)) 2 ≡ b → T (a || b) → agree (set_of j) (set_of k) ≤ 2
    go true b e f t = absurd (ne (eqb-true j k e))
    go false true e f t = leb-true (agree (set_of j) (set_of k)) 2 f
    go false false e f t = absurd t

-- so an exact set is near no kind
exact_far : (l : List ℕ) (j k : ℕ) → Exactly l j → InThree l k → ⊥
exact_far l j k e t =
    let long = exact_long l j e in
    let n = set_length j e.kind in
    let m = set_length k t.kind in
    let three : agree (set_of k) (set_of j) ≡ 3 =
    sym (agree_front (set_of k) (set_of j) _ (omega arith)) ∙ ap (agree (set_of k)) (sym (exact_is l j e)) ∙ three_is l long k t.kind t in
    elim (ℕ_discrete k j) [
      | yes q ↦
          let four : agree (set_of k) (set_of k) ≡ length (set_of k) = all_agree (set_of k) (set_of k) (omega arith) (λ i h. refl) in
          let same : agree (set_of k) (set_of k) ≡ agree (set_of k) (set_of j) = ap (λ (i : ℕ). agree (set_of k) (set_of i)) q in
          omega arith
      | no q ↦ let two = apart k j t.kind e.kind q in omega arith
    ]

-- ---- 5. One changed symbol

module _ (k i v : ℕ) (x : List ℕ) (h : k < kinds) (place : i < 4) (changed : v ≡ get_or (set_of k) i 0 → ⊥) where
  abbrev line : List ℕ
  line = set (set_of k) i v ++ x

  four_long : length (set (set_of k) i v) ≡ 4
  four_long = length-set (set_of k) i v ∙ set_length k h

  line_long : 4 ≤ length line
  line_long = omega (arith, length-append (set (set_of k) i v) x, four_long)

  symbol_at : (j : ℕ) → j < 4 → get_or line j 0 ≡ get_or (set (set_of k) i v) j 0
  symbol_at j w = get_or-append (set (set_of k) i v) x 0 j (omega (arith, four_long))

  near_set : InThree line k
  near_set =
      let n = set_length k h in
      record {
        kind = h;
        wrong = i;
        within = place;
        differs = λ e. changed (sym (symbol_at i place ∙ get_or-set_same (set_of k) i v 0 (omega arith)) ∙ e);
        agrees = λ j w ne. symbol_at j w ∙ get_or-set_other (set_of k) i j v 0 ne;
      }

  changed_once : Nearly line k ⊎ Doubtful line
  changed_once = three_or line line_long k near_set (λ j e. exact_far line j k e near_set)

pub one_changed : OneChanged
one_changed = changed_once

-- ---- 5. Several kinds: refused

doubtful_untaken : (l : List ℕ) → Doubtful l → Untaken l
doubtful_untaken l d = record { four = d.four; none = each }
  where
    each : (k : ℕ) (exact : Bool) → TakenAs l k exact → ⊥
    each k true e = exact_far l k d.one e d.with_one
    each k false t = d.apart (t.single d.one d.with_one ∙ sym (t.single d.other d.with_other))

pub doubtful_refused : DoubtfulRefused
doubtful_refused l d = let u = doubtful_untaken l d in (u, (no_frame_exactly l 0).1 (inl (u, refl)))

-- ---- 5. Several kinds: those of the list are such

every : (List ℕ → Bool) → List (List ℕ) → Bool
every g [] = true
every g (r ∷ rs) = g r && every g rs

is_several : List ℕ → Bool
is_several four = leb 2 (length (agreeing 0 ordered_sets four))

among_every : (g : List ℕ → Bool) (rs : List (List ℕ)) (l : List ℕ) → T (every g rs) → Among l rs → T (g l)
unfolding every
among_every g [] l t m = absurd m
among_every g (r ∷ rs) l t (inl e) = subst (λ (x : List ℕ). T (g x)) (sym e) (head_of (g r) (every g rs) t)
among_every g (r ∷ rs) l t (inr m) = among_every g rs l (tail_of (g r) (every g rs) t) m

among_doubtful : (l : List ℕ) → 4 ≤ length l → Among (take 4 l) doubtful_sets → Doubtful l
unfolding every is_several agreeing agree
among_doubtful l long m =
    let t = among_every is_several doubtful_sets (take 4 l) tt m in
    let several : 2 ≤ length (agreeing 0 ordered_sets (take 4 l)) = leb→le 2 (length (agreeing 0 ordered_sets (take 4 l))) t in
    counted_doubtful l long (subst (λ (ks : List ℕ). 2 ≤ length ks) (sym (agreeing_front l long)) several)

-- ---- 5. Several kinds: no others are

some : (List ℕ → Bool) → List (List ℕ) → Bool
some g [] = false
some g (r ∷ rs) = g r || some g rs

is_row : List ℕ → List ℕ → Bool
is_row l r = eqb (length r) 4 && eqb (agree r l) 4

row_is : (l r : List ℕ) → length l ≡ 4 → T (is_row l r) → l ≡ r
unfolding is_row
row_is l r n t =
    let long = eqb→eq (length r) 4 (head_of (eqb (length r) 4) (eqb (agree r l) 4) t) in
    let four = eqb→eq (agree r l) 4 (tail_of (eqb (length r) 4) (eqb (agree r l) 4) t) in
    ext_get_or 0 l r (n ∙ sym long) (λ i h. agree_all r l (four ∙ sym long) i (omega arith))

some_among : (l : List ℕ) (rs : List (List ℕ)) → length l ≡ 4 → T (some (is_row l) rs) → Among l rs
unfolding some
some_among l [] n t = absurd t
some_among l (r ∷ rs) n t = go (is_row l r) refl t (some_among l rs n)
  where
    go : (b : Bool) → is_row l r ≡ b → T (b || some (is_row l) rs) → (T (some (is_row l) rs) → Among l rs) → Among l (r ∷ rs)
    go true e t ih = inl (row_is l r n (subst T (sym e) tt))
    go false e t ih = inr (ih t)

-- a set with the symbol that another set has at a place
set_with : ℕ → ℕ → ℕ → List ℕ
set_with j k p = set (set_of j) p (get_or (set_of k) p 0)

-- it is one of the list, where the other set is near it
is_listed : ℕ → ℕ → ℕ → Bool
is_listed j k p = eqb j k || (leb (agree (set_of k) (set_with j k p)) 2 || some (is_row (set_with j k p)) doubtful_sets)

listed : (j k p : ℕ) → j < kinds → k < kinds → p < 4 → T (is_listed j k p)
unfolding is_listed set_with some is_row agree set_of
listed j k p h i q = at (is_listed j k) 4 (at (λ n. all (is_listed j n) 4) kinds (at (λ m. all (λ n. all (is_listed m n) 4) kinds) kinds tt j h) k i) p q

module _ (l : List ℕ) (d : Doubtful l) where
  abbrev j : ℕ
  j = d.one

  abbrev k : ℕ
  k = d.other

  abbrev p : ℕ
  p = d.with_one.wrong

  set_one : length (set_of j) ≡ 4
  set_one = set_length j d.with_one.kind

  set_other : length (set_of k) ≡ 4
  set_other = set_length k d.with_other.kind

  -- they are wrong at two places
  elsewhere : p ≡ d.with_other.wrong → ⊥
  elsewhere e =
      let two = apart j k d.with_one.kind d.with_other.kind d.apart in
      elim (ℕ_discrete (get_or (set_of k) p 0) (get_or (set_of j) p 0)) [
        | yes q ↦ omega (arith, set_one, set_other, all_agree (set_of j) (set_of k) (omega (arith, set_one, set_other)) (everywhere q))
        | no q ↦
            let w = d.with_one.within in
            omega (
              arith,
              set_one,
              set_other,
              less_one (set_of j) (set_of k) (omega (arith, set_one, set_other))
                  (record { wrong = p; within = omega (arith, set_one); differs = q; agrees = beside }),
            )
      ]
    where
      beside : (i : ℕ) → i < length (set_of j) → (i ≡ p → ⊥) → get_or (set_of k) i 0 ≡ get_or (set_of j) i 0
      beside i h ne =
          let w : i < 4 = omega (arith, set_one) in
          sym (d.with_other.agrees i w (λ q. ne (q ∙ sym e))) ∙ d.with_one.agrees i w ne

      everywhere : get_or (set_of k) p 0 ≡ get_or (set_of j) p 0 → (i : ℕ) → i < length (set_of j) → get_or (set_of k) i 0 ≡ get_or (set_of j) i 0
      everywhere q i h =
          elim (ℕ_discrete i p) [
            | yes s ↦ subst (λ (n : ℕ). get_or (set_of k) n 0 ≡ get_or (set_of j) n 0) (sym s) q
            | no s ↦ beside i h s
          ]

  front : take 4 l ≡ set_with j k p
  unfolding set_with
  front =
      let n = length-take-le 4 l d.four in
      ext_get_or 0 (take 4 l) (set_with j k p) (n ∙ sym (length-set (set_of j) p (get_or (set_of k) p 0) ∙ set_one)) (λ i h. each i (omega arith))
    where
      each : (i : ℕ) → i < 4 → get_or (take 4 l) i 0 ≡ get_or (set_with j k p) i 0
      each i h =
          get_or-take 4 l i 0 h
          ∙ elim (ℕ_discrete i p) [
            | yes s ↦
                subst (λ (m : ℕ). get_or l m 0 ≡ get_or (set_with j k p) m 0) (sym s)
                (d.with_other.agrees p d.with_one.within elsewhere ∙ sym (get_or-set_same (set_of j) p (get_or (set_of k) p 0) 0 (omega (arith, set_one, d.with_one.within))))
            | no s ↦ d.with_one.agrees i h s ∙ sym (get_or-set_other (set_of j) p i (get_or (set_of k) p 0) 0 s)
          ]

  three : agree (set_of k) (set_with j k p) ≡ 3
  three =
      let n = length-take-le 4 l d.four in
      ap (agree (set_of k)) (sym front)
      ∙ sym (agree_front (set_of k) (take 4 l) (drop 4 l) (omega (arith, set_other)))
      ∙ ap (agree (set_of k)) (take-append-drop 4 l)
      ∙ three_is l d.four k d.with_other.kind d.with_other

  doubtful_among : Among (take 4 l) doubtful_sets
  unfolding is_listed
  doubtful_among =
      go (eqb j k) refl (leb (agree (set_of k) (set_with j k p)) 2) refl (listed j k p d.with_one.kind d.with_other.kind d.with_one.within)
    where
      go : (a : Bool) → eqb j k ≡ a → (b : Bool) → leb (agree (set_of k) (set_with j k p)) 2 ≡ b
          → T (a || (b || some (is_row (set_with j k p)) doubtful_sets)) → Among (take 4 l) doubtful_sets
      go true e b f t = absurd (d.apart (eqb-true j k e))
      go false e true f t = let few = leb-true (agree (set_of k) (set_with j k p)) 2 f in absurd (omega (arith, three))
      go false e false f t =
          let n = length-take-le 4 l d.four in
          subst (λ (x : List ℕ). Among x doubtful_sets) (sym front) (some_among (set_with j k p) doubtful_sets (sym (ap length front) ∙ n) t)

pub doubtful_exactly : DoubtfulExactly
doubtful_exactly l long = (doubtful_among l, among_doubtful l long)
