-- Which set the first four symbols are taken for: the count of places where they agree, and the kinds that agree in three.
-- Assumes nothing.
use mathlib.Core.Path.{◌≡◌, refl, sym, ap, ◌∙◌, subst}
use mathlib.Core.Bool.{Bool, true, false, cond}
use mathlib.Core.List.{List, [], ◌∷◌, ◌++◌}
use mathlib.Core.Logic.{◌⊎◌, inl, inr}
use mathlib.Core.Option.{Option, none, some}
use Prim.Native.Nat.{ℕ, zero, suc, ◌+◌, ◌<◌, ◌≤◌}
use native.Mathlib.Nat.{zero-add}
use native.Mathlib.Omega.{arith}
use native.Mathlib.Decide.{dec_lt, ℕ_discrete}
use borrow.Author.Tests.{eqb-true, eqb-false, eq-eqb, ne_eqb, lt-ltb, le-ltb}
use lib.Dec.{eqb}
use lib.ListN.{length, take, get_or, length-append}
use Rattle.line.proofs.Starts.{set_length, kind_set, exact_is, exact_kind}
use Rattle.line.specs.Kind.{ordered_sets, kinds, set_of, common, kind_from}
use Rattle.line.specs.Read.{Look, found, short, misfit, TakenSet, agree, agreeing, single, taken_or, set_at}
use Rattle.line.specs.Taken.{Exactly, InThree, Nearly, TakenAs, Untaken, Doubtful}
use Rattle.line.specs.Theorems.{OneTaken}

-- ---- in how many places a set and a record agree

pub agree_most : (s l : List ℕ) → agree s l ≤ length s
unfolding agree
agree_most [] l = omega arith
agree_most (x ∷ xs) [] = omega arith
agree_most (x ∷ xs) (y ∷ ys) = go (eqb x y) (agree_most xs ys)
  where
    go : (b : Bool) → agree xs ys ≤ length xs → cond b (suc (agree xs ys)) (agree xs ys) ≤ suc (length xs)
    go true h = omega arith
    go false h = omega arith

pub agree_same : (x y : ℕ) (xs ys : List ℕ) → x ≡ y → agree (x ∷ xs) (y ∷ ys) ≡ suc (agree xs ys)
unfolding agree
agree_same x y xs ys e = simp (eq-eqb x y e)

pub agree_other : (x y : ℕ) (xs ys : List ℕ) → (x ≡ y → ⊥) → agree (x ∷ xs) (y ∷ ys) ≡ agree xs ys
unfolding agree
agree_other x y xs ys e = simp (ne_eqb x y e)

pub all_agree : (s l : List ℕ) → length s ≤ length l → ((i : ℕ) → i < length s → get_or l i 0 ≡ get_or s i 0) → agree s l ≡ length s
unfolding agree
all_agree [] l h f = refl
all_agree (x ∷ xs) [] h f = absurd (omega arith)
all_agree (x ∷ xs) (y ∷ ys) h f =
    agree_same x y xs ys (sym (f 0 (omega arith))) ∙ ap suc (all_agree xs ys (omega arith) (λ i w. f (suc i) (omega arith)))

pub agree_all : (s l : List ℕ) → agree s l ≡ length s → (i : ℕ) → i < length s → get_or l i 0 ≡ get_or s i 0
unfolding agree
agree_all [] l e i h = absurd (omega arith)
agree_all (x ∷ xs) [] e i h = absurd (omega arith)
agree_all (x ∷ xs) (y ∷ ys) e i h =
    elim (ℕ_discrete x y) [
      | yes q ↦ go i h q (agree_all xs ys (omega (arith, agree_same x y xs ys q)))
      | no q ↦ absurd (omega (arith, agree_other x y xs ys q, agree_most xs ys))
    ]
  where
    go : (i : ℕ) → i < suc (length xs) → x ≡ y → ((i : ℕ) → i < length xs → get_or ys i 0 ≡ get_or xs i 0) → get_or (y ∷ ys) i 0 ≡ get_or (x ∷ xs) i 0
    go zero h q r = sym q
    go (suc i) h q r = r i (omega arith)

-- what is behind the set's length does not count
pub agree_front : (s l x : List ℕ) → length s ≤ length l → agree s (l ++ x) ≡ agree s l
unfolding agree
agree_front [] l x h = refl
agree_front (y ∷ ys) [] x h = absurd (omega arith)
agree_front (y ∷ ys) (z ∷ zs) x h = ap (λ (n : ℕ). cond (eqb y z) (suc n) n) (agree_front ys zs x (omega arith))

-- a set and a record agree in all places but one
pub record AllBut (s l : List ℕ) : Type 0 where
  pub wrong : ℕ
  pub within : wrong < length s
  pub differs : get_or l wrong 0 ≡ get_or s wrong 0 → ⊥
  pub agrees : (i : ℕ) → i < length s → (i ≡ wrong → ⊥) → get_or l i 0 ≡ get_or s i 0

one_less : (s l : List ℕ) → length s ≤ length l → suc (agree s l) ≡ length s → AllBut s l
one_less [] l h e = absurd (omega arith)
one_less (x ∷ xs) [] h e = absurd (omega arith)
one_less (x ∷ xs) (y ∷ ys) h e =
    elim (ℕ_discrete x y) [
      | yes q ↦ later q (one_less xs ys (omega arith) (omega (arith, agree_same x y xs ys q)))
      | no q ↦ first_wrong q (agree_all xs ys (omega (arith, agree_other x y xs ys q)))
    ]
  where
    later : x ≡ y → AllBut xs ys → AllBut (x ∷ xs) (y ∷ ys)
    later q r =
        let w = r.within in
        record { wrong = suc r.wrong; within = omega arith; differs = r.differs; agrees = each }
      where
        each : (i : ℕ) → i < suc (length xs) → (i ≡ suc r.wrong → ⊥) → get_or (y ∷ ys) i 0 ≡ get_or (x ∷ xs) i 0
        each zero h n = sym q
        each (suc i) h n = r.agrees i (omega arith) (λ e. n (ap suc e))

    first_wrong : (x ≡ y → ⊥) → ((i : ℕ) → i < length xs → get_or ys i 0 ≡ get_or xs i 0) → AllBut (x ∷ xs) (y ∷ ys)
    first_wrong q f = record { wrong = 0; within = omega arith; differs = λ e. q (sym e); agrees = each }
      where
        each : (i : ℕ) → i < suc (length xs) → (i ≡ 0 → ⊥) → get_or (y ∷ ys) i 0 ≡ get_or (x ∷ xs) i 0
        each zero h n = absurd (n refl)
        each (suc i) h n = f i (omega arith)

pub less_one : (s l : List ℕ) → length s ≤ length l → AllBut s l → suc (agree s l) ≡ length s
less_one [] l h r = let w = r.within in absurd (omega arith)
less_one (x ∷ xs) [] h r = absurd (omega arith)
less_one (x ∷ xs) (y ∷ ys) h r = go r.wrong r.within r.differs r.agrees (less_one xs ys (omega arith))
  where
    go : (p : ℕ) → p < suc (length xs) → (get_or (y ∷ ys) p 0 ≡ get_or (x ∷ xs) p 0 → ⊥)
        → ((i : ℕ) → i < suc (length xs) → (i ≡ p → ⊥) → get_or (y ∷ ys) i 0 ≡ get_or (x ∷ xs) i 0)
        → (AllBut xs ys → suc (agree xs ys) ≡ length xs) → suc (agree (x ∷ xs) (y ∷ ys)) ≡ suc (length xs)
    go zero w d a ih =
        ap suc (agree_other x y xs ys (λ e. d (sym e)) ∙ all_agree xs ys (omega arith) (λ i h. a (suc i) (omega arith) (λ z. absurd (omega arith))))
    go (suc p) w d a ih =
        let head : x ≡ y = sym (a 0 (omega arith) (λ z. absurd (omega arith))) in
        let tail = ih (record { wrong = p; within = omega arith; differs = d; agrees = λ i h n. a (suc i) (omega arith) (λ e. n (omega arith)) }) in
        omega (arith, agree_same x y xs ys head)

-- of a record of four symbols or more and a kind's set
module _ (l : List ℕ) (long : 4 ≤ length l) (k : ℕ) (h : k < kinds) where
  is_three : agree (set_of k) l ≡ 3 → InThree l k
  is_three e =
      let n = set_length k h in
      let r = one_less (set_of k) l (omega arith) (omega arith) in
      let w = r.within in
      record { kind = h; wrong = r.wrong; within = omega arith; differs = r.differs; agrees = λ i b. r.agrees i (omega arith) }

  pub three_is : InThree l k → agree (set_of k) l ≡ 3
  three_is r =
      let n = set_length k h in
      let w = r.within in
      omega (arith, less_one (set_of k) l (omega arith) (record { wrong = r.wrong; within = omega arith; differs = r.differs; agrees = λ i b. r.agrees i (omega arith) }))

-- ---- the kinds that agree in three places

abbrev In : ℕ → List ℕ → Type 0
In j [] = ⊥
In j (k ∷ ks) = (j ≡ k) ⊎ In j ks

-- j is the kind of set i of ss, and this one agrees
record Agrees (k : ℕ) (ss : List (List ℕ)) (l : List ℕ) (j : ℕ) : Type 0 where
  i : ℕ
  within : i < length ss
  kind_is : j ≡ k + i
  three : agree (get_or ss i []) l ≡ 3

later : {k : ℕ} {s : List ℕ} {ss : List (List ℕ)} {l : List ℕ} {j : ℕ} → Agrees (suc k) ss l j → Agrees k (s ∷ ss) l j
later r =
    let w = r.within in
    let e = r.kind_is in
    record { i = suc r.i; within = omega arith; kind_is = omega arith; three = r.three }

in_agrees : (k : ℕ) (ss : List (List ℕ)) (l : List ℕ) (j : ℕ) → In j (agreeing k ss l) → Agrees k ss l j
unfolding agreeing
in_agrees k [] l j m = absurd m
in_agrees k (s ∷ ss) l j m = go (eqb (agree s l) 3) refl (in_agrees (suc k) ss l j) m
  where
    go : (b : Bool) → eqb (agree s l) 3 ≡ b → (In j (agreeing (suc k) ss l) → Agrees (suc k) ss l j) → In j (cond b (k ∷ agreeing (suc k) ss l) (agreeing (suc k) ss l)) → Agrees k (s ∷ ss) l j
    go true t ih (inl e) = record { i = 0; within = omega arith; kind_is = omega arith; three = eqb-true (agree s l) 3 t }
    go true t ih (inr m) = later (ih m)
    go false t ih m = later (ih m)

agrees_in : (k : ℕ) (ss : List (List ℕ)) (l : List ℕ) (i : ℕ) → i < length ss → agree (get_or ss i []) l ≡ 3 → In (k + i) (agreeing k ss l)
unfolding agreeing
agrees_in k [] l i h e = absurd (omega arith)
agrees_in k (s ∷ ss) l i h e = go (eqb (agree s l) 3) refl (agrees_in (suc k) ss l) i h e
  where
    behind : ((i : ℕ) → i < length ss → agree (get_or ss i []) l ≡ 3 → In (suc k + i) (agreeing (suc k) ss l))
        → (i : ℕ) → i < length ss → agree (get_or ss i []) l ≡ 3 → In (k + suc i) (agreeing (suc k) ss l)
    behind ih i h e = let same : suc k + i ≡ k + suc i = omega arith in subst (λ (n : ℕ). In n (agreeing (suc k) ss l)) same (ih i h e)

    go : (b : Bool) → eqb (agree s l) 3 ≡ b → ((i : ℕ) → i < length ss → agree (get_or ss i []) l ≡ 3 → In (suc k + i) (agreeing (suc k) ss l))
        → (i : ℕ) → i < suc (length ss) → agree (get_or (s ∷ ss) i []) l ≡ 3 → In (k + i) (cond b (k ∷ agreeing (suc k) ss l) (agreeing (suc k) ss l))
    go true t ih zero h e = inl (omega arith)
    go true t ih (suc i) h e = inr (behind ih i (omega arith) e)
    go false t ih zero h e = absurd (eqb-false (agree s l) 3 t e)
    go false t ih (suc i) h e = behind ih i (omega arith) e

-- of two in turn the second is the greater
in_order : (k : ℕ) (ss : List (List ℕ)) (l : List ℕ) (i j : ℕ) (ks : List ℕ) → agreeing k ss l ≡ i ∷ j ∷ ks → i < j
unfolding agreeing
in_order k [] l i j ks e = let z : ◌≡◌ {A = ℕ} 0 1 = cc in absurd (omega arith)
in_order k (s ∷ ss) l i j ks e = go (eqb (agree s l) 3) e (in_order (suc k) ss l i j ks)
  where
    go : (b : Bool) → cond b (k ∷ agreeing (suc k) ss l) (agreeing (suc k) ss l) ≡ i ∷ j ∷ ks → (agreeing (suc k) ss l ≡ i ∷ j ∷ ks → i < j) → i < j
    go true e ih =
        let first : k ≡ i = cc in
        let rest : agreeing (suc k) ss l ≡ j ∷ ks = cc in
        let r = in_agrees (suc k) ss l j (subst (In j) (sym rest) (inl refl)) in
        let q = r.kind_is in
        omega arith
    go false e ih = ih e

-- ---- the kinds among the ordered sets

module _ (l : List ℕ) (long : 4 ≤ length l) where
  near : List ℕ
  near = agreeing 0 ordered_sets l

  near_three : (j : ℕ) → In j near → InThree l j
  unfolding near set_of
  near_three j m =
      let r = in_agrees 0 ordered_sets l j m in
      let w = r.within in
      let kind : r.i ≡ j = omega (arith, r.kind_is) in
      let three : agree (set_of j) l ≡ 3 = rw kind at r.three in
      is_three l long j (omega arith) three

  three_near : (j : ℕ) → InThree l j → In j near
  unfolding near set_of
  three_near j t = rw zero-add at (agrees_in 0 ordered_sets l j t.kind (three_is l long j t.kind t))

  -- by what the list of them is
  none_near : near ≡ [] → (j : ℕ) → InThree l j → ⊥
  none_near e j t = subst (In j) e (three_near j t)

  one_near : (k : ℕ) → near ≡ k ∷ [] → InThree l k × ((j : ℕ) → InThree l j → j ≡ k)
  one_near k e = (near_three k (subst (In k) (sym e) (inl refl)), λ j t. only (subst (In j) e (three_near j t)))
    where
      only : {j : ℕ} → In j (k ∷ []) → j ≡ k
      only (inl q) = q
      only (inr m) = absurd m

  several_near : (i j : ℕ) (ks : List ℕ) → near ≡ i ∷ j ∷ ks → Doubtful l
  unfolding near
  several_near i j ks e =
      let less = in_order 0 ordered_sets l i j ks e in
      record {
        four = long;
        one = i;
        other = j;
        apart = λ q. omega arith;
        with_one = near_three i (subst (In i) (sym e) (inl refl));
        with_other = near_three j (subst (In j) (sym e) (inr (inl refl)));
      }

  -- a kind that agrees in three places is the nearest, or one of several
  pub three_or : (k : ℕ) → InThree l k → ((j : ℕ) → Exactly l j → ⊥) → Nearly l k ⊎ Doubtful l
  three_or k t inexact = go near refl
    where
      go : (ks : List ℕ) → near ≡ ks → Nearly l k ⊎ Doubtful l
      go [] e = absurd (none_near e k t)
      go (i ∷ []) e =
          let o = one_near i e in
          let same = o.1 k t in
          inl (record { four = long; none = inexact; three = t; single = λ j u. o.1 j u ∙ sym same })
      go (i ∷ j ∷ ks) e = inr (several_near i j ks e)

  -- several that agree, counted
  pub counted_doubtful : 2 ≤ length (agreeing 0 ordered_sets l) → Doubtful l
  unfolding near
  counted_doubtful h = go near refl h
    where
      go : (ks : List ℕ) → near ≡ ks → 2 ≤ length ks → Doubtful l
      go [] e h = absurd (omega arith)
      go (i ∷ []) e h = absurd (omega arith)
      go (i ∷ j ∷ ks) e h = several_near i j ks e

-- ---- what is taken

pub exact_long : (l : List ℕ) (k : ℕ) → Exactly l k → 4 ≤ length l
exact_long l k e = omega (arith, simp length-append at (ap length (exact_is l k e)), set_length k e.kind)

pub taken_long : (l : List ℕ) (k : ℕ) (exact : Bool) → TakenAs l k exact → 4 ≤ length l
taken_long l k true t = exact_long l k t
taken_long l k false t = t.four

pub taken_kind : (l : List ℕ) (k : ℕ) (exact : Bool) → TakenAs l k exact → k < kinds
taken_kind l k true t = t.kind
taken_kind l k false t = t.three.kind

-- what an answer on the set says of the record
abbrev pub SetMeans : List ℕ → Look TakenSet → Type 0
SetMeans l (found t) = TakenAs l t.kind t.exact
SetMeans l (short p) = (length l < 4) × (p ≡ length l)
SetMeans l (misfit p) = Untaken l × (p ≡ 0)

module _ (l : List ℕ) (long : 4 ≤ length l) where
  four_at : set_at l ≡ taken_or (kind_from 0 ordered_sets l) (near l long)
  unfolding set_at near
  four_at = simp (le-ltb (length l) 4 long)

  module _ (unset : kind_from 0 ordered_sets l ≡ none) where
    inexact : (k : ℕ) → Exactly l k → ⊥
    inexact k e = let s : some k ≡ none = sym (exact_kind l k e) ∙ unset in let z : ◌≡◌ {A = ℕ} 0 1 = cc in omega arith

    -- where no kind is nearest
    untaken : ((k : ℕ) → Nearly l k → ⊥) → Untaken l
    untaken far = record { four = long; none = each }
      where
        each : (k : ℕ) (exact : Bool) → TakenAs l k exact → ⊥
        each k true e = inexact k e
        each k false t = far k t

    near_means : (ks : List ℕ) → near l long ≡ ks → SetMeans l (single ks)
    unfolding single
    near_means [] e = (untaken (λ k t. none_near l long e k t.three), refl)
    near_means (k ∷ []) e =
        let o = one_near l long k e in
        record { four = long; none = inexact; three = o.0; single = o.1 }
    near_means (i ∷ j ∷ ks) e =
        let d = several_near l long i j ks e in
        (untaken (λ k t. d.apart (t.single d.one d.with_one ∙ sym (t.single d.other d.with_other))), refl)

  long_means : (o : Option ℕ) → kind_from 0 ordered_sets l ≡ o → SetMeans l (taken_or o (near l long))
  unfolding taken_or
  long_means (some k) e = kind_set l k e
  long_means none e = near_means e (near l long) refl

pub set_means : (l : List ℕ) → SetMeans l (set_at l)
unfolding set_at
set_means l =
    elim (dec_lt (length l) 4) [
      | yes h ↦ rw (lt-ltb (length l) 4 h) (h, refl)
      | no h ↦ let long : 4 ≤ length l = omega arith in subst (SetMeans l) (sym (four_at l long)) (long_means l long (kind_from 0 ordered_sets l) refl)
    ]

pub one_taken : OneTaken
one_taken l j k true true a b = let e : some j ≡ some k = sym (exact_kind l j a) ∙ exact_kind l k b in (cc, refl)
one_taken l j k true false a b = absurd (b.none j a)
one_taken l j k false true a b = absurd (a.none k b)
one_taken l j k false false a b = (b.single j a.three, refl)

-- so each has one answer
module _ (l : List ℕ) where
  pub taken_set : (k : ℕ) (exact : Bool) → TakenAs l k exact → set_at l ≡ found (record { kind = k; exact = exact })
  taken_set k exact t = go (set_at l) (set_means l)
    where
      go : (r : Look TakenSet) → SetMeans l r → r ≡ found (record { kind = k; exact = exact })
      go (found s) m = let o = one_taken l s.kind k s.exact exact m t in λ i. found (record { kind = o.0 i; exact = o.1 i })
      go (short p) m = let h = m.0 in absurd (omega (arith, taken_long l k exact t))
      go (misfit p) m = absurd (m.0.none k exact t)

  pub short_set : length l < 4 → set_at l ≡ short (length l)
  unfolding set_at
  short_set h = simp (lt-ltb (length l) 4 h)

  pub untaken_set : Untaken l → set_at l ≡ misfit 0
  untaken_set u = go (set_at l) (set_means l)
    where
      go : (r : Look TakenSet) → SetMeans l r → r ≡ misfit 0
      go (found s) m = absurd (u.none s.kind s.exact m)
      go (short p) m = let h = m.0 in absurd (omega (arith, u.four))
      go (misfit p) m = ap misfit m.1

-- only the first four symbols count
pub agreeing_front : (l : List ℕ) → 4 ≤ length l → agreeing 0 ordered_sets l ≡ agreeing 0 ordered_sets (take 4 l)
unfolding agreeing agree
agreeing_front [] h = absurd (omega arith)
agreeing_front (a ∷ []) h = absurd (omega arith)
agreeing_front (a ∷ b ∷ []) h = absurd (omega arith)
agreeing_front (a ∷ b ∷ c ∷ []) h = absurd (omega arith)
agreeing_front (a ∷ b ∷ c ∷ d ∷ l) h = refl

pub set_stays : (l ys : List ℕ) → 4 ≤ length l → set_at (l ++ ys) ≡ set_at l
unfolding set_at taken_or kind_from common agreeing agree
set_stays [] ys h = absurd (omega arith)
set_stays (a ∷ []) ys h = absurd (omega arith)
set_stays (a ∷ b ∷ []) ys h = absurd (omega arith)
set_stays (a ∷ b ∷ c ∷ []) ys h = absurd (omega arith)
set_stays (a ∷ b ∷ c ∷ d ∷ l) ys h =
    rw (le-ltb (length (a ∷ b ∷ c ∷ d ∷ (l ++ ys))) 4 (omega arith), le-ltb (length (a ∷ b ∷ c ∷ d ∷ l)) 4 h) refl
