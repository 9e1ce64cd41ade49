-- Which shape begins a record: a set, and of an SOP kind what follows it.
-- Assumes nothing.
use mathlib.Core.Path.{◌≡◌, refl, sym, ap, ap₂, ◌∙◌, subst}
use mathlib.Core.Bool.{Bool, true, false, cond}
use mathlib.Core.List.{List, [], ◌++◌, append_assoc, append-nil, append_cancel_left}
use mathlib.Core.Option.{some}
use Prim.Native.Nat.{ℕ, suc, ◌+◌, ◌*◌, ◌<◌, ◌≤◌}
use native.Mathlib.Omega.{arith}
use borrow.Author.Tests.{ltb-true, ltb-false, lt-ltb, le-ltb}
use lib.Dec.{ltb}
use lib.ListN.{length, take, drop, length-append}
use lib.Seq.{take-append-add}
use Rattle.line.proofs.Nibbles.{length_encoded}
use Rattle.line.proofs.Looks.{Begun, Part, Says}
use Rattle.line.proofs.Starts.{set_length, set_kind, set_there, drop_set}
use Rattle.line.proofs.Bodies.{Sized, body, body_back, body_says}
use Rattle.line.specs.Kind.{ordered_sets, kinds, sop_kinds, set_of, carries, kind_from}
use Rattle.line.specs.Frame.{Shape, Shaped, drawn}
use Rattle.line.specs.Taken.{Exactly}
use Rattle.line.specs.Read.{Look, found, short, misfit, body_at, with_set, shape_behind}

-- ---- what a shape is drawn as

kind_of_lem : {s : Shape} → Shaped s → s.kind < kinds
kind_of_lem (Shaped.message h o lo hi) = omega arith
kind_of_lem (Shaped.alone h k e) = k

pub sized_of : {s : Shape} → Shaped s → s.kind < sop_kinds → Sized s.octets
sized_of (Shaped.message h o lo hi) sop = record { octets = o; many = lo; few = hi }
sized_of (Shaped.alone h k e) sop = absurd (omega arith)

behind : Shape → List ℕ
behind s = cond (carries s.kind) (body s.octets) []

-- the set, then the rest
drawn_is : (s : Shape) → drawn s ≡ set_of s.kind ++ behind s
unfolding drawn behind
drawn_is s = refl

drawn_message : (k : ℕ) (m : List ℕ) → k < sop_kinds → drawn (record { kind = k; octets = m }) ≡ set_of k ++ body m
unfolding drawn carries
drawn_message k m h = simp (lt-ltb k sop_kinds h)

pub length_drawn : (s : Shape) → s.kind < sop_kinds → length (drawn s) ≡ 4 + 2 * length s.octets + 1
length_drawn s h =
    let m = s.octets in
    let e = ap length (drawn_message s.kind m h) in
    omega (arith, simp length-append at e, set_length s.kind (omega arith), length_encoded m)

drawn_alone : (k : ℕ) (m : List ℕ) → sop_kinds ≤ k → drawn (record { kind = k; octets = m }) ≡ set_of k
unfolding drawn carries
drawn_alone k m h = simp (le-ltb k sop_kinds h, append-nil)

pub drawn_some : {s : Shape} → Shaped s → 4 ≤ length (drawn s)
drawn_some {s} shaped =
    let e = ap length (drawn_is s) in
    omega (arith, simp length-append at e, set_length s.kind (kind_of_lem shaped))

-- ---- a shape is found, whatever follows it

front : (s : Shape) (x : List ℕ) → set_of s.kind ++ (behind s ++ x) ≡ drawn s ++ x
front s x = sym (append_assoc (set_of s.kind) (behind s) x) ∙ ap (λ (l : List ℕ). l ++ x) (sym (drawn_is s))

-- the set tells the kind
pub same_kind : (k : ℕ) (s : Shape) (x y : List ℕ) → k < kinds → Shaped s → set_of k ++ x ≡ drawn s ++ y → k ≡ s.kind
same_kind k s x y h shaped e =
    let f : some k ≡ some s.kind =
    sym (set_kind k x h) ∙ ap (kind_from 0 ordered_sets) (e ∙ sym (front s y)) ∙ set_kind s.kind (behind s ++ y) (kind_of_lem shaped) in
    cc

pub drawn_exact : (s : Shape) (x : List ℕ) → Shaped s → Exactly (drawn s ++ x) s.kind
drawn_exact s x shaped =
    subst (λ (l : List ℕ). Exactly l s.kind) (front s x) (set_there s.kind (behind s ++ x) (kind_of_lem shaped))

pub shape_back : (s : Shape) (x : List ℕ) → Shaped s → shape_behind s.kind (drop 4 (drawn s ++ x)) ≡ found s
unfolding shape_behind with_set carries
shape_back s x (Shaped.message h o lo hi) =
    simp (
      drawn_message s.kind s.octets h,
      append_assoc (set_of s.kind) (body s.octets) x,
      lt-ltb s.kind sop_kinds h,
      drop_set s.kind (body s.octets ++ x) (omega arith),
      body_back s.octets x (record { octets = o; many = lo; few = hi }),
    )
shape_back s x (Shaped.alone h k e) =
    simp (le-ltb s.kind sop_kinds h)
    (λ i. found (record { kind = s.kind; octets = sym e i }))

-- so a record begins with one shape at most
pub one_shape : (s t : Shape) (x y : List ℕ) → Shaped s → Shaped t → drawn s ++ x ≡ drawn t ++ y → (s ≡ t) × (x ≡ y)
one_shape s t x y p q e =
    let kind = same_kind s.kind t (behind s ++ x) y (kind_of_lem p) q (front s x ∙ e) in
    let f : found s ≡ found t =
    sym (shape_back s x p) ∙ ap₂ (λ (k : ℕ) (l : List ℕ). shape_behind k (drop 4 l)) kind e ∙ shape_back t y q in
    let same : s ≡ t = cc in
    (same, append_cancel_left (drawn s) x y (rw (← same) at e))

-- ---- behind the set of an SOP kind

module _ (k : ℕ) (sop : k < sop_kinds) where
  shape_of : List ℕ → Shape
  shape_of m = record { kind = k; octets = m }

  shape_right : (m : List ℕ) → Sized m → Shaped (shape_of m)
  unfolding shape_of
  shape_right m z = Shaped.message sop z.octets z.many z.few

  shape_is : (m : List ℕ) → drawn (shape_of m) ≡ set_of k ++ body m
  unfolding shape_of
  shape_is m = drawn_message k m sop

  body_begun : (a : List ℕ) → Begun Sized body a → Begun Shaped drawn (set_of k ++ a)
  body_begun a b =
      record {
        thing = shape_of b.thing;
        right = shape_right b.thing b.right;
        rest = b.rest;
        is = append_assoc (set_of k) a b.rest ∙ ap (λ (x : List ℕ). set_of k ++ x) b.is ∙ sym (shape_is b.thing);
      }

  body_part : (a : List ℕ) → Part Sized body a → Part Shaped drawn (set_of k ++ a)
  unfolding body_begun
  body_part a p = record { begun = body_begun a p.begun; more = p.more }

  -- what begins with the set and begins a shape goes on as a body
  rest_begun : (a : List ℕ) → Begun Shaped drawn (set_of k ++ a) → Begun Sized body a
  rest_begun a b =
      let s = b.thing in
      let e : set_of k ++ (a ++ b.rest) ≡ drawn s = sym (append_assoc (set_of k) a b.rest) ∙ b.is in
      let kind : k ≡ s.kind = same_kind k s (a ++ b.rest) [] (omega arith) b.right (e ∙ sym (append-nil (drawn s))) in
      let is : drawn s ≡ set_of k ++ body s.octets = rw kind (drawn_message s.kind s.octets (omega arith)) in
      record {
        thing = s.octets;
        right = sized_of b.right (omega arith);
        rest = b.rest;
        is = append_cancel_left (set_of k) (a ++ b.rest) (body s.octets) (e ∙ is);
      }

  module _ (rest : List ℕ) where
    line : List ℕ
    line = set_of k ++ rest

    take_line : (n : ℕ) → take (4 + n) line ≡ set_of k ++ take n rest
    unfolding line
    take_line n = ap (λ (x : ℕ). take (x + n) line) (sym (set_length k (omega arith))) ∙ take-append-add (set_of k) rest n

    line_long : length line ≡ 4 + length rest
    unfolding line
    line_long = omega (arith, length-append (set_of k) rest, set_length k (omega arith))

    body_says_shape : (r : Look (List ℕ)) → Says Sized body rest r → Says Shaped drawn line (with_set k r)
    unfolding with_set line shape_of
    body_says_shape (found m) s =
        record {
          right = shape_right m s.right;
          rest = s.rest;
          is =
              ap (λ (x : List ℕ). set_of k ++ x) s.is
              ∙ sym (append_assoc (set_of k) (body m) s.rest)
              ∙ ap (λ (x : List ℕ). x ++ s.rest) (sym (shape_is m));
        }
    body_says_shape (short p) s = let e = s.1 in (body_part rest s.0, omega (arith, line_long))
    body_says_shape (misfit p) s =
        let w = s.within in
        let one_more : suc (4 + p) ≡ 4 + suc p = omega arith in
        let next : take (suc (4 + p)) line ≡ set_of k ++ take (suc p) rest = ap (λ (n : ℕ). take n line) one_more ∙ take_line (suc p) in
        record {
          within = omega (arith, line_long);
          part = subst (Part Shaped drawn) (sym (take_line p)) (body_part (take p rest) s.part);
          no_more = λ b. s.no_more (rest_begun (take (suc p) rest) (subst (Begun Shaped drawn) next b));
        }

-- ---- behind any set

pub shape_says : (k : ℕ) (l : List ℕ) → k < kinds → Says Shaped drawn (set_of k ++ l) (shape_behind k l)
unfolding shape_behind carries line
shape_says k l h = go (ltb k sop_kinds) refl
  where
    go : (b : Bool) → ltb k sop_kinds ≡ b
        → Says Shaped drawn (set_of k ++ l) (cond b (with_set k (body_at l)) (found (record { kind = k; octets = [] })))
    go true e = body_says_shape k (ltb-true k sop_kinds e) l (body_at l) (body_says l)
    go false e =
        let alone = ltb-false k sop_kinds e in
        record { right = Shaped.alone alone h refl; rest = l; is = ap (λ (x : List ℕ). x ++ l) (sym (drawn_alone k [] alone)) }
