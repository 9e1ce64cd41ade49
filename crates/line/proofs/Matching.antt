-- How the code looks for a set: place after place, and kind after kind.
-- Assumes nothing.
use mathlib.Core.Path.{◌≡◌, refl, sym, ap, ap₂, ◌∙◌}
use mathlib.Core.Bool.{Bool, true, false, cond, ◌&&◌}
use mathlib.Core.List.{List, [], ◌∷◌, map}
use mathlib.Core.Option.{Option, none, some}
use Prim.Native.Nat.{ℕ, suc, ◌+◌, ◌<◌, ◌≤◌}
use native.Mathlib.Omega.{arith}
use borrow.Author.Tests.{lt-ltb, le-ltb}
use lib.Dec.{eqb, eqb-zero-suc, eqb-suc-suc}
use lib.ListN.{length}
use mir.Val.{bool_byte}
use Rattle.std.specs.Prelude.{filter, find}
use Rattle.std.specs.Prelude.{Option as Maybe, Some, None}
use Rattle.std.specs.List.{starts_with}
use Rattle.line.specs.declared.kind.Kind.{Kind}
use Rattle.line.specs.Numbered.{kind_number}
use Rattle.line.specs.Kind.{set_of, common, kind_from}
use Rattle.line.specs.Read.{found, short, misfit, agree, agreeing, single, taken_or, set_at}
use Rattle.line.proofs.Numbers.{in_order, kind_below}
use Rattle.line.proofs.Starts.{set_length}

-- ---- in how many places a set and a record agree

-- one place more is compared
pub compared : (x y : ℕ) (xs ys : List ℕ) (n b : ℕ) → b ≡ bool_byte (eqb x y) → n + agree (x ∷ xs) (y ∷ ys) ≡ n + b + agree xs ys
unfolding agree
compared x y xs ys n b e = go (eqb x y) e
  where
    go : (same : Bool) → b ≡ bool_byte same → n + cond same (suc (agree xs ys)) (agree xs ys) ≡ n + b + agree xs ys
    go true e = omega (arith, e)
    go false e = omega (arith, e)

-- and no more are counted than there are places
pub few_counted : (x y n b : ℕ) → n ≤ 4 → b ≡ bool_byte (eqb x y) → n + b ≤ 5
few_counted x y n b h e = go (eqb x y) e
  where
    go : (same : Bool) → b ≡ bool_byte same → n + b ≤ 5
    go true e = omega (arith, e)
    go false e = omega (arith, e)

-- where either ends there is no place more
pub set_ends : (s l : List ℕ) → length s ≡ 0 → agree s l ≡ 0
unfolding agree
set_ends [] l e = refl
set_ends (x ∷ xs) l e = absurd (omega arith)

pub line_ends : (s l : List ℕ) → length l ≡ 0 → agree s l ≡ 0
unfolding agree
line_ends [] l e = refl
line_ends (x ∷ xs) [] e = refl
line_ends (x ∷ xs) (y ∷ ys) e = absurd (omega arith)

-- ---- the kinds whose sets a record begins with, and those that agree with it in three places

abbrev pub begins : List ℕ → Kind → Bool
begins l k = starts_with eqb l (set_of (kind_number k))

abbrev pub in_places : ℕ → List ℕ → Kind → Bool
in_places n l k = eqb (agree (set_of (kind_number k)) l) n

-- kinds numbered from n on
abbrev Numbered : ℕ → List Kind → Type 0
Numbered n [] = Unit {0}
Numbered n (k ∷ ks) = (kind_number k ≡ n) × Numbered (suc n) ks

abbrev sets_of : List Kind → List (List ℕ)
sets_of ks = map (λ (k : Kind). set_of (kind_number k)) ks

number_of : Maybe Kind → Option ℕ
number_of None = none
number_of (Some k) = some (kind_number k)

starts_in_common : (s l : List ℕ) → starts_with eqb l s ≡ eqb (common s l) (length s)
unfolding common
starts_in_common [] l = refl
starts_in_common (x ∷ xs) [] = sym (eqb-zero-suc (length xs))
starts_in_common (x ∷ xs) (y ∷ ys) = go (eqb x y) (starts_in_common xs ys)
  where
    go : (b : Bool) → starts_with eqb ys xs ≡ eqb (common xs ys) (length xs)
        → (b && starts_with eqb ys xs) ≡ eqb (cond b (suc (common xs ys)) 0) (suc (length xs))
    go true e = e ∙ sym (eqb-suc-suc (common xs ys) (length xs))
    go false e = sym (eqb-zero-suc (length xs))

begins_four : (k : Kind) (l : List ℕ) → eqb (common (set_of (kind_number k)) l) 4 ≡ begins l k
begins_four k l =
    let s = set_of (kind_number k) in
    ap (eqb (common s l)) (sym (set_length (kind_number k) (kind_below k))) ∙ sym (starts_in_common s l)

first_exact : (n : ℕ) (ks : List Kind) (l : List ℕ) → Numbered n ks → kind_from n (sets_of ks) l ≡ number_of (find (begins l) ks)
unfolding kind_from number_of
first_exact n [] l h = refl
first_exact n (k ∷ ks) l h = rw (begins_four k l) (go (begins l k) (first_exact (suc n) ks l h.1))
  where
    go : (b : Bool) → kind_from (suc n) (sets_of ks) l ≡ number_of (find (begins l) ks)
        → cond b (some n) (kind_from (suc n) (sets_of ks) l) ≡ number_of (cond b (Some k) (find (begins l) ks))
    go true e = ap some (sym h.0)
    go false e = e

all_near : (n : ℕ) (ks : List Kind) (l : List ℕ) → Numbered n ks → agreeing n (sets_of ks) l ≡ map kind_number (filter (in_places 3 l) ks)
unfolding agreeing
all_near n [] l h = refl
all_near n (k ∷ ks) l h = go (in_places 3 l k) (all_near (suc n) ks l h.1)
  where
    go : (b : Bool) → agreeing (suc n) (sets_of ks) l ≡ map kind_number (filter (in_places 3 l) ks)
        → cond b (n ∷ agreeing (suc n) (sets_of ks) l) (agreeing (suc n) (sets_of ks) l)
        ≡ map kind_number (cond b (k ∷ filter (in_places 3 l) ks) (filter (in_places 3 l) ks))
    go true e = ap₂ (λ (i : ℕ) (is : List ℕ). i ∷ is) (sym h.0) e
    go false e = e

-- ---- which set is taken

-- too few symbols
pub few_symbols : (l : List ℕ) → length l < 4 → set_at l ≡ short (length l)
unfolding set_at
few_symbols l h = simp (lt-ltb (length l) 4 h)

module _ (l : List ℕ) (long : 4 ≤ length l) where
  by_kinds : set_at l ≡ taken_or (number_of (find (begins l) in_order)) (map kind_number (filter (in_places 3 l) in_order))
  unfolding set_at set_of
  by_kinds =
      let h : Numbered 0 in_order = (refl, (refl, (refl, (refl, (refl, (refl, tt)))))) in
      simp (le-ltb (length l) 4 long) (ap₂ taken_or (first_exact 0 in_order l h) (all_near 0 in_order l h))

  pub is_exact : (k : Kind) → find (begins l) in_order ≡ Some k → set_at l ≡ found (record { kind = kind_number k; exact = true })
  unfolding taken_or number_of
  is_exact k e = by_kinds ∙ ap (λ (o : Maybe Kind). taken_or (number_of o) (map kind_number (filter (in_places 3 l) in_order))) e

  module _ (other : find (begins l) in_order ≡ None) where
    by_near : set_at l ≡ single (map kind_number (filter (in_places 3 l) in_order))
    unfolding taken_or number_of
    by_near = by_kinds ∙ ap (λ (o : Maybe Kind). taken_or (number_of o) (map kind_number (filter (in_places 3 l) in_order))) other

    pub one_near : (k : Kind) → k ∷ [] ≡ filter (in_places 3 l) in_order → set_at l ≡ found (record { kind = kind_number k; exact = false })
    unfolding single
    one_near k e = by_near ∙ ap (λ (ks : List Kind). single (map kind_number ks)) (sym e)

    pub none_near : [] ≡ filter (in_places 3 l) in_order → set_at l ≡ misfit 0
    unfolding single
    none_near e = by_near ∙ ap (λ (ks : List Kind). single (map kind_number ks)) (sym e)

    pub several_near : 1 < length (filter (in_places 3 l) in_order) → set_at l ≡ misfit 0
    unfolding single
    several_near h = by_near ∙ go (filter (in_places 3 l) in_order) h
      where
        go : (ks : List Kind) → 1 < length ks → single (map kind_number ks) ≡ misfit 0
        go [] q = absurd (omega arith)
        go (i ∷ []) q = absurd (omega arith)
        go (i ∷ j ∷ ks) q = refl
