-- Laws of symbols and nibbles: octets as symbols and back.
-- Assumes nothing.
use mathlib.Core.Path.{◌≡◌, refl, ap, ap₂, ◌∙◌}
use mathlib.Core.Bool.{Bool, true, false, cond}
use mathlib.Core.List.{List, [], ◌∷◌, ◌++◌}
use Prim.Native.Nat.{ℕ, zero, suc, ◌+◌, ◌*◌, ◌/◌, ◌%◌, ◌<◌}
use native.Mathlib.Nat.{mod-lt}
use native.Mathlib.Omega.{arith}
use borrow.Author.Tests.{eqb-true}
use lib.Arith.{digits_div, digits_mod}
use lib.Dec.{eqb, eqb→eq, lit<}
use lib.ListN.{length, get_or}
use Rattle.line.proofs.Table.{at}
use Rattle.line.specs.Symbol.{nibble_symbols, symbol_of, place_of, nibble_of, encoded, octets_of}
use Rattle.line.specs.Frame.{Octets}

-- ---- a nibble and its symbol

is_back : ℕ → Bool
is_back n = eqb (nibble_of (symbol_of n)) n

back : (n : ℕ) → n < 16 → nibble_of (symbol_of n) ≡ n
unfolding nibble_of place_of symbol_of is_back
back n h = eqb→eq (nibble_of (symbol_of n)) n (at is_back 16 tt n h)

-- where x stands in a list, x stands
stands : (x : ℕ) (l : List ℕ) → place_of x l < length l → get_or l (place_of x l) 0 ≡ x
unfolding place_of
stands x [] h = absurd (omega arith)
stands x (y ∷ ys) h = go (eqb x y) refl h (stands x ys)
  where
    go : (b : Bool) → eqb x y ≡ b → cond b 0 (suc (place_of x ys)) < suc (length ys)
        → (place_of x ys < length ys → get_or ys (place_of x ys) 0 ≡ x)
        → get_or (y ∷ ys) (cond b 0 (suc (place_of x ys))) 0 ≡ x
    go true e q ih = let r = eqb-true x y e in cc
    go false e q ih = ih (omega arith)

forth : (s : ℕ) → nibble_of s < 16 → symbol_of (nibble_of s) ≡ s
unfolding nibble_of symbol_of
forth s h = stands s nibble_symbols h

-- ---- lists of nibbles

abbrev pub Nibbles : List ℕ → Type 0
Nibbles [] = Unit {0}
Nibbles (s ∷ l) = (nibble_of s < 16) × Nibbles l

pub nibbles_at : (l : List ℕ) → Nibbles l → (i : ℕ) → i < length l → nibble_of (get_or l i 0) < 16
nibbles_at [] q i h = absurd (omega arith)
nibbles_at (s ∷ l) q zero h = q.0
nibbles_at (s ∷ l) q (suc i) h = nibbles_at l q.1 i (omega arith)

pub nibbles_append : (a b : List ℕ) → Nibbles a → Nibbles b → Nibbles (a ++ b)
nibbles_append [] b p q = q
nibbles_append (s ∷ a) b p q = (p.0, nibbles_append a b p.1 q)

-- ---- octets as symbols

low : (b : ℕ) → b % 16 < 16
low b = mod-lt b (lit< tt)

high : (b : ℕ) → b < 256 → b / 16 < 16
high b h = omega arith

pub encoded_nibbles : (m : List ℕ) → Octets m → Nibbles (encoded m)
unfolding encoded
encoded_nibbles [] o = tt
encoded_nibbles (b ∷ bs) o =
    let p = back (b % 16) (low b) in
    let q = back (b / 16) (high b o.0) in
    let r = high b o.0 in
    let s = low b in
    (omega arith, (omega arith, encoded_nibbles bs o.1))

pub length_encoded : (m : List ℕ) → length (encoded m) ≡ 2 * length m
unfolding encoded
length_encoded [] = refl
length_encoded (b ∷ bs) = let e = length_encoded bs in omega arith

pub octets_encoded : (m : List ℕ) → Octets m → octets_of (encoded m) ≡ m
unfolding encoded octets_of
octets_encoded [] o = refl
octets_encoded (b ∷ bs) o =
    let p = back (b % 16) (low b) in
    let q = back (b / 16) (high b o.0) in
    ap₂ (λ (x : ℕ) (l : List ℕ). x ∷ l) (omega arith) (octets_encoded bs o.1)

-- ---- symbols as octets

pub octets_of_lem : (l : List ℕ) → Nibbles l → Octets (octets_of l)
unfolding octets_of
octets_of_lem [] q = tt
octets_of_lem (s ∷ []) q = tt
octets_of_lem (s ∷ t ∷ l) q = (omega arith, octets_of_lem l q.1.1)

pub encoded_octets : (l : List ℕ) → Nibbles l → length l % 2 ≡ 0 → encoded (octets_of l) ≡ l
unfolding encoded octets_of
encoded_octets [] q e = refl
encoded_octets (s ∷ []) q e = absurd (omega arith)
encoded_octets (s ∷ t ∷ l) q e =
    let a = nibble_of s in
    let b = nibble_of t in
    let o : (a + 16 * b) % 16 ≡ a = ap (λ (x : ℕ). x % 16) (omega arith) ∙ digits_mod b q.0 in
    let p : (a + 16 * b) / 16 ≡ b = ap (λ (x : ℕ). x / 16) (omega arith) ∙ digits_div b q.0 in
    let ih = encoded_octets l q.1.1 (omega arith) in
    rw (o, p, forth s q.0, forth t q.1.0, ih)
