-- Octets, a space before each: looked at, and then stored.
-- Assumes nothing.
use mathlib.Core.Path.{◌≡◌, refl, sym, ap, ◌∙◌}
use mathlib.Core.Bool.{Bool, true, false, ◌&&◌}
use mathlib.Core.List.{List, [], ◌∷◌, ◌++◌, map}
use Prim.Native.Nat.{ℕ, suc, ◌+◌, ◌/◌, ◌%◌, ◌<◌, ◌≤◌}
use native.Mathlib.Omega.{arith}
use lib.Dec.{eqb}
use native.Mathlib.Nat.{add-zero, zero-add, add-suc, suc-add}
use borrow.Author.Tests.{ne_eqb}
use lib.ListN.{length, get_or, take, set}
use lib.Seq.{sets, take_all, length-take-le}
use Rattle.std.proofs.lemmas.List.{take_more, map-append, length-map}
use Rattle.std.specs.List.{list_all}
use Rattle.std.specs.Simd.{first_chunks}
use Rattle.text.specs.Hex.{octet_of}
use Rattle.script.specs.Text.{is_octet, are_octets, octets_in}

-- a group is a space and two digits
abbrev pub is_group : List ℕ → Bool
is_group g = is_octet (get_or g 0 0) (get_or g 1 0) (get_or g 2 0)

abbrev pub octet_of_group : List ℕ → ℕ
octet_of_group g = octet_of (get_or g 1 0) (get_or g 2 0)

swap : (a b c : Bool) → (a && (b && c)) ≡ (b && (a && c))
swap true b c = refl
swap false true c = refl
swap false false c = refl

thirds : (n : ℕ) → ((suc (suc (suc n))) / 3 ≡ suc (n / 3)) × ((suc (suc (suc n))) % 3 ≡ n % 3)
thirds n = (omega arith, omega arith)

pub octets_are : (l : List ℕ) → octets_in l ≡ map octet_of_group (first_chunks 3 (length l / 3) l)
unfolding octets_in
octets_are [] = refl
octets_are (s ∷ []) = refl
octets_are (s ∷ a ∷ []) = refl
octets_are (s ∷ a ∷ b ∷ l) = rw ((thirds (length l)).0) (ap (λ (x : List ℕ). octet_of a b ∷ x) (octets_are l))

pub groups_are : (l : List ℕ) → are_octets l ≡ (eqb (length l % 3) 0 && list_all is_group (first_chunks 3 (length l / 3) l))
unfolding are_octets
groups_are [] = refl
groups_are (s ∷ []) = refl
groups_are (s ∷ a ∷ []) = refl
groups_are (s ∷ a ∷ b ∷ l) =
    let t = thirds (length l) in
    rw (t.0, t.1, groups_are l) (swap (is_octet s a b) (eqb (length l % 3) 0) (list_all is_group (first_chunks 3 (length l / 3) l)))

module _ (l : List ℕ) (rest : ℕ) (e : rest ≡ length l % 3) (r : Bool) where
  pub whole : rest ≡ 0 → r ≡ list_all is_group (first_chunks 3 (length l / 3) l) → r ≡ are_octets l
  whole z h = h ∙ sym (groups_are l ∙ rw (← e, z) refl)

  pub cut : (rest ≡ 0 → ⊥) → false ≡ are_octets l
  cut z = sym (groups_are l ∙ rw (← e, ne_eqb rest 0 z) refl)

-- ---- each octet goes to the next place

sets_more : (l : List ℕ) (i : ℕ) (vs : List ℕ) (v : ℕ) → set (sets l i vs) (i + length vs) v ≡ sets l i (vs ++ (v ∷ []))
sets_more l i [] v = rw add-zero refl
sets_more l i (w ∷ vs) v = rw (add-suc, ← suc-add) (sets_more (set l i w) (suc i) vs v)

pub stores : (out : List ℕ) (groups : List (List ℕ)) (n : ℕ) (d : List ℕ) → n < length groups
    → set (sets out 0 (map octet_of_group (take n groups))) n (octet_of_group (get_or groups n d)) ≡ sets out 0 (map octet_of_group (take (n + 1) groups))
stores out groups n d h =
    let long : length (map octet_of_group (take n groups)) ≡ n = rw length-map (length-take-le n groups (omega arith)) in
    rw (take_more groups n d h, map-append) (rw (zero-add, long) at (sets_more out 0 (map octet_of_group (take n groups)) (octet_of_group (get_or groups n d))))

pub stored : (l out : List ℕ) (groups : List (List ℕ)) (n : ℕ) → groups ≡ first_chunks 3 (length l / 3) l → length groups ≤ n
    → (length groups ≡ length (octets_in l)) × (sets out 0 (map octet_of_group (take n groups)) ≡ sets out 0 (octets_in l))
stored l out groups n e h =
    let all : map octet_of_group groups ≡ octets_in l = ap (map octet_of_group) e ∙ sym (octets_are l) in
    (sym (length-map groups octet_of_group) ∙ ap length all, rw (take_all n groups h, all) refl)
