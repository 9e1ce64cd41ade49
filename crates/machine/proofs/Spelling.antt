-- The message that a queue spells: exactly when it spells one, and that the message is whole.
-- Assumes nothing.
use mathlib.Core.Path.{◌≡◌, refl, sym, ap, ap₂, ◌∙◌, subst}
use mathlib.Core.Bool.{Bool, true, false, cond, ◌&&◌, and-eq-true_iff}
use mathlib.Core.List.{List, [], ◌∷◌, ◌++◌, map, append-nil}
use mathlib.Core.Option.{Option, none, some}
use Prim.Native.Nat.{ℕ, ◌+◌, ◌-◌, ◌<◌, ◌≤◌}
use native.Mathlib.Omega.{arith}
use borrow.Author.Tests.{ltb-true, leb-true, eqb-true, lt-ltb, le-leb}
use lib.Dec.{eqb, leb}
use lib.ListN.{length, take, drop, get_or, length-map, length-drop, take-append-drop}
use lib.Seq.{take_all, length-take-le, drop-cons, drop-drop, take_at, drop_at, get_or_at, drop-append_seam}
use Rattle.line.specs.Kind.{ordered_sets, kinds, sop_kinds, set_of, carries, common, kind_from}
use Rattle.line.specs.Frame.{Frame, Octets, Whole}
use Rattle.line.proofs.Starts.{set_length, set_kind, kind_set}
use Rattle.machine.specs.Queue.{set_symbol, announced, same_list, closing, spelt_by, spelt}
use Rattle.machine.specs.Theorems.{Spells, SpeltExactly}

-- ---- lists that are the same

pub same_list_lem : (a b : List ℕ) → same_list a b ≡ true → a ≡ b
same_list_lem [] [] e = refl
same_list_lem [] (y ∷ b) e = let z : ◌≡◌ {A = ℕ} 0 1 = cc in absurd (omega arith)
same_list_lem (x ∷ a) [] e = let z : ◌≡◌ {A = ℕ} 0 1 = cc in absurd (omega arith)
same_list_lem (x ∷ a) (y ∷ b) e =
    let t = (and-eq-true_iff (eqb x y) (same_list a b)).0 e in
    let p = eqb-true x y t.0 in
    let q = same_list_lem a b t.1 in
    cc

-- ---- the count of a block's token

announced_by : (x : ℕ) → 2 ≤ announced x → (x ≡ 0x80 + announced x) × (announced x ≤ 30)
unfolding announced
announced_by x = go (leb 0x82 x) refl (leb x 0x9E) refl
  where
    go : (a : Bool) → leb 0x82 x ≡ a → (b : Bool) → leb x 0x9E ≡ b → 2 ≤ cond (a && b) (x - 0x80) 0
        → (x ≡ 0x80 + cond (a && b) (x - 0x80) 0) × (cond (a && b) (x - 0x80) 0 ≤ 30)
    go true d true e h = let p = leb-true 0x82 x d in let q = leb-true x 0x9E e in (omega arith, omega arith)
    go true d false e h = absurd (omega arith)
    go false d b e h = absurd (omega arith)

pub announces : (n : ℕ) → 2 ≤ n → n ≤ 30 → announced (0x80 + n) ≡ n
unfolding announced
announces n lo hi = rw (le-leb 0x82 (0x80 + n) (omega arith), le-leb (0x80 + n) 0x9E (omega arith)) (omega arith)

-- ---- the kind of a set of four

four_set : (l : List ℕ) (k : ℕ) → length l ≡ 4 → kind_from 0 ordered_sets l ≡ some k → l ≡ set_of k
four_set l k four e = sym (take_all 4 l (omega arith)) ∙ (kind_set l k e).same

kind_alone : (k : ℕ) → k < kinds → kind_from 0 ordered_sets (set_of k) ≡ some k
kind_alone k h = ap (kind_from 0 ordered_sets) (sym (append-nil (set_of k))) ∙ set_kind k [] h

-- a set has four tokens
pub set_four : (set : List ℕ) (k : ℕ) → map set_symbol set ≡ set_of k → k < kinds → length set ≡ 4
set_four set k e h = sym (length-map set set_symbol) ∙ ap length e ∙ set_length k h

-- ---- 4. What a queue spells

-- the parts of a queue that spells a message of kind k
parts : (q : List ℕ) (k : ℕ) → kind_from 0 ordered_sets (map set_symbol (take 4 q)) ≡ some k → k < sop_kinds
    → 2 ≤ announced (get_or q 4 0) → drop (5 + announced (get_or q 4 0)) q ≡ closing
    → Spells q (record { kind = k; octets = take (announced (get_or q 4 0)) (drop 5 q) })
parts q k begins sop many ends =
    let n = announced (get_or q 4 0) in
    let long : length q ≡ 8 + n = omega (arith, sym (length-drop (5 + n) q) ∙ ap length ends) in
    let block : length (take n (drop 5 q)) ≡ n = length-take-le n (drop 5 q) (rw length-drop (omega arith)) in
    let token = announced_by (get_or q 4 0) many in
    let front : drop 4 q ≡ get_or q 4 0 ∷ drop 5 q = drop-cons q 4 0 (omega arith) in
    let back : drop 5 q ≡ take n (drop 5 q) ++ closing =
    sym (take-append-drop n (drop 5 q)) ∙ ap (λ (l : List ℕ). take n (drop 5 q) ++ l) (drop-drop n 5 q ∙ ends) in
    record {
      set = take 4 q;
      sop = sop;
      tokens = four_set _ k (length-map (take 4 q) set_symbol ∙ length-take-le 4 q (omega arith)) begins;
      many = omega arith;
      few = omega (arith, token.1);
      is =
          sym (take-append-drop 4 q)
          ∙ ap (λ (l : List ℕ). take 4 q ++ l) (front ∙ ap₂ (λ (x : ℕ) (l : List ℕ). x ∷ l) (omega (arith, token.0)) back);
    }

spells : (q : List ℕ) (f : Frame) → spelt q ≡ some f → Spells q f
unfolding spelt spelt_by carries
spells q f e = go (kind_from 0 ordered_sets (map set_symbol (take 4 q))) refl e
  where
    n : ℕ
    n = announced (get_or q 4 0)

    told : (k : ℕ) → kind_from 0 ordered_sets (map set_symbol (take 4 q)) ≡ some k
        → (b : Bool) → (carries k && (leb 2 n && same_list (drop (5 + n) q) closing)) ≡ b
        → cond b (some (record { kind = k; octets = take n (drop 5 q) })) none ≡ some f → Spells q f
    told k s true t e =
        let c = (and-eq-true_iff (carries k) (leb 2 n && same_list (drop (5 + n) q) closing)).0 t in
        let d = (and-eq-true_iff (leb 2 n) (same_list (drop (5 + n) q) closing)).0 c.1 in
        let p : ◌≡◌ {A = Frame} (record { kind = k; octets = take n (drop 5 q) }) f = cc in
        subst (Spells q) p (parts q k s (ltb-true k sop_kinds c.0) (leb-true 2 n d.0) (same_list_lem (drop (5 + n) q) closing d.1))
    told k s false t e = let z : ◌≡◌ {A = ℕ} 0 1 = cc in absurd (omega arith)

    go : (o : Option ℕ) → kind_from 0 ordered_sets (map set_symbol (take 4 q)) ≡ o → spelt_by o n q ≡ some f → Spells q f
    go (some k) s e = told k s _ refl e
    go none s e = let z : ◌≡◌ {A = ℕ} 0 1 = cc in absurd (omega arith)

-- what stands behind a set of four and a block's token
module _ (set l : List ℕ) (x : ℕ) (four : length set ≡ 4) where
  behind : drop 5 (set ++ (x ∷ l)) ≡ l
  behind = sym (drop-drop 1 4 (set ++ (x ∷ l))) ∙ ap (drop 1) (drop_at set (x ∷ l) 4 four)

  far_behind : (n : ℕ) → drop (5 + n) (set ++ (x ∷ l)) ≡ drop n l
  far_behind n = sym (drop-drop n 5 (set ++ (x ∷ l))) ∙ ap (drop n) behind

pub spelt_of : (q : List ℕ) (f : Frame) → Spells q f → spelt q ≡ some f
unfolding spelt spelt_by carries
spelt_of q f s =
    let set = s.set in
    let m = f.octets in
    let n = length m in
    let h = s.sop in
    let lo = s.many in
    let four = set_four set f.kind s.tokens (omega arith) in
    ap spelt s.is
    ∙ simp (
      take_at,
      get_or_at,
      s.tokens,
      kind_alone f.kind (omega arith),
      announces n lo s.few,
      lt-ltb f.kind sop_kinds h,
      le-leb 2 n lo,
      behind set (m ++ closing) (0x80 + n) four,
      far_behind set (m ++ closing) (0x80 + n) four n,
      drop-append_seam m closing,
    )

pub spelt_exactly : SpeltExactly
spelt_exactly q f = (spells q f, spelt_of q f)

-- ---- the message is whole

octets_right : (a b : List ℕ) → Octets (a ++ b) → Octets b
octets_right [] b o = o
octets_right (x ∷ a) b o = octets_right a b o.1

octets_left : (a b : List ℕ) → Octets (a ++ b) → Octets a
octets_left [] b o = tt
octets_left (x ∷ a) b o = (o.0, octets_left a b o.1)

pub spelt_whole : (q : List ℕ) (f : Frame) → Octets q → spelt q ≡ some f → Whole f
spelt_whole q f o e =
    let s = spells q f e in
    let all : Octets (s.set ++ ((0x80 + length f.octets) ∷ (f.octets ++ closing))) = rw s.is at o in
    Whole.message s.sop (octets_left f.octets closing (octets_right s.set _ all).1) s.many s.few

pub spelt_nil : spelt [] ≡ none
unfolding spelt spelt_by kind_from common
spelt_nil = refl
