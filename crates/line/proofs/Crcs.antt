-- Octets with their CRC: when it is right, and the octets without it.
-- Assumes nothing.
use mathlib.Core.Path.{◌≡◌, refl, sym, ap, ap₂, ◌∙◌}
use mathlib.Core.Bool.{true, false}
use mathlib.Core.List.{List, [], ◌∷◌, ◌++◌}
use Prim.Native.Nat.{ℕ, zero, suc, ◌+◌, ◌*◌, ◌-◌, ◌/◌, ◌%◌, ◌<◌, ◌≤◌}
use native.Mathlib.Nat.{div-div-eq-div-mul, mod-eq_of_lt, mod-lt}
use native.Mathlib.Omega.{arith}
use borrow.Author.Tests.{eq-eqb, eqb-true, le-leb, lt-leb}
use lib.Arith.{digits_div, digits_mod}
use lib.Dec.{eqb, lit<}
use lib.ListN.{length, take, drop, get_or, length-append, length-drop, take-append-drop}
use lib.Seq.{take_at, drop_at, length-take-le}
use Rattle.line.specs.Crc.{crc_of, four_octets, with_crc, number, crc_right}
use Rattle.line.specs.Frame.{Octets}

-- ---- lists of octets

pub octets_append : (a b : List ℕ) → Octets a → Octets b → Octets (a ++ b)
octets_append [] b p q = q
octets_append (x ∷ xs) b p q = (p.0, octets_append xs b p.1 q)

octets_take : (n : ℕ) (l : List ℕ) → Octets l → Octets (take n l)
octets_take zero l o = tt
octets_take (suc n) [] o = tt
octets_take (suc n) (x ∷ xs) o = (o.0, octets_take n xs o.1)

pub octets_drop : (n : ℕ) (l : List ℕ) → Octets l → Octets (drop n l)
octets_drop zero l o = o
octets_drop (suc n) [] o = o
octets_drop (suc n) (x ∷ xs) o = octets_drop n xs o.1

-- ---- four octets and their number

number_back : (c : ℕ) → c < 4294967296 → number (four_octets c) ≡ c
unfolding number four_octets
number_back c h =
    let top : c / 16777216 < 256 = omega arith in
    omega (arith, div-div-eq-div-mul c 256 256, div-div-eq-div-mul c 65536 256, mod-eq_of_lt top)

module _ (a b c d : ℕ) (ha : a < 256) (hb : b < 256) (hc : c < 256) (hd : d < 256) where
  total : ℕ
  total = a + 256 * b + 65536 * c + 16777216 * d

  over_1 : total / 256 ≡ b + 256 * c + 65536 * d
  unfolding total
  over_1 = ap (λ (x : ℕ). x / 256) (omega arith) ∙ digits_div (b + 256 * c + 65536 * d) ha

  over_2 : total / 65536 ≡ c + 256 * d
  over_2 = sym (div-div-eq-div-mul total 256 256) ∙ ap (λ (x : ℕ). x / 256) (over_1 ∙ omega arith) ∙ digits_div (c + 256 * d) hb

  over_3 : total / 16777216 ≡ d
  over_3 = sym (div-div-eq-div-mul total 65536 256) ∙ ap (λ (x : ℕ). x / 256) (over_2 ∙ omega arith) ∙ digits_div d hc

  four_back : four_octets total ≡ a ∷ b ∷ c ∷ d ∷ []
  unfolding four_octets total
  four_back =
      let o : total % 256 ≡ a = ap (λ (x : ℕ). x % 256) (omega arith) ∙ digits_mod (b + 256 * c + 65536 * d) ha in
      let p : total / 256 % 256 ≡ b = ap (λ (x : ℕ). x % 256) (over_1 ∙ omega arith) ∙ digits_mod (c + 256 * d) hb in
      let q : total / 65536 % 256 ≡ c = ap (λ (x : ℕ). x % 256) (over_2 ∙ omega arith) ∙ digits_mod d hc in
      let r : total / 16777216 % 256 ≡ d = ap (λ (x : ℕ). x % 256) over_3 ∙ mod-eq_of_lt hd in
      rw (o, p, q, r)

number_forth : (l : List ℕ) → length l ≡ 4 → Octets l → four_octets (number l) ≡ l
unfolding number total
number_forth [] e o = absurd (omega arith)
number_forth (a ∷ []) e o = absurd (omega arith)
number_forth (a ∷ b ∷ []) e o = absurd (omega arith)
number_forth (a ∷ b ∷ c ∷ []) e o = absurd (omega arith)
number_forth (a ∷ b ∷ c ∷ d ∷ []) e o = four_back a b c d o.0 o.1.0 o.1.1.0 o.1.1.1.0
number_forth (a ∷ b ∷ c ∷ d ∷ f ∷ l) e o = absurd (omega arith)

-- ---- octets with their CRC

pub length_crc : (l : List ℕ) → length (with_crc l) ≡ length l + 4
unfolding with_crc four_octets
length_crc l = length-append l (four_octets (crc_of l))

pub octets_crc : (l : List ℕ) → Octets l → Octets (with_crc l)
unfolding with_crc four_octets
octets_crc l o = octets_append l _ o (octet _, (octet _, (octet _, (octet _, tt))))
  where
    octet : (n : ℕ) → n % 256 < 256
    octet n = mod-lt n (lit< tt)

-- ---- octets without their CRC

unfoldable pub payload : List ℕ → List ℕ
payload m = take (length m - 4) m

pub length_payload : (m : List ℕ) → length (payload m) ≡ length m - 4
unfolding payload
length_payload m = length-take-le (length m - 4) m (omega arith)

pub octets_payload : (m : List ℕ) → Octets m → Octets (payload m)
unfolding payload
octets_payload m o = octets_take (length m - 4) m o

module _ (l : List ℕ) where
  seam : length l ≡ length (with_crc l) - 4
  seam = omega (arith, length_crc l)

  pub payload_back : payload (with_crc l) ≡ l
  unfolding payload with_crc
  payload_back = take_at l (four_octets (crc_of l)) _ seam

  crc_lt : crc_of l < 4294967296
  unfolding crc_of
  crc_lt = omega arith

  pub crc_right_lem : crc_right (with_crc l) ≡ true
  unfolding crc_right payload with_crc
  crc_right_lem =
      let n = number_back (crc_of l) crc_lt in
      let d = drop_at l (four_octets (crc_of l)) _ seam in
      let long : 4 ≤ length (l ++ four_octets (crc_of l)) = omega (arith, length_crc l) in
      rw (le-leb 4 _ long) (eq-eqb _ _ (ap crc_of payload_back ∙ sym (ap number d ∙ n)))

-- octets whose CRC is right are some octets with their CRC
pub crc_there : (m : List ℕ) → Octets m → 4 ≤ length m → crc_right m ≡ true → m ≡ with_crc (payload m)
unfolding crc_right with_crc payload
crc_there m o h e =
    let n = length m - 4 in
    let right = eqb-true (crc_of (take n m)) (number (drop n m)) (rw (le-leb 4 (length m) h) at e) in
    let k : length (drop n m) ≡ 4 = length-drop n m ∙ omega arith in
    let four = number_forth (drop n m) k (octets_drop n m o) in
    sym (take-append-drop n m) ∙ ap (λ (x : List ℕ). take n m ++ x) (sym four ∙ ap four_octets (sym right))

-- ---- the code's way to it

pub crc_few : (l : List ℕ) → length l < 4 → false ≡ crc_right l
unfolding crc_right
crc_few l h = rw (lt-leb 4 (length l) h) refl

pub crc_is : (l m tail : List ℕ) (c d : ℕ) → (m ≡ take (length l - 4) l) × (tail ≡ drop (length l - 4) l) × (length m + 4 ≡ length l) → c ≡ crc_of m
    → d ≡ get_or tail 0 0 + get_or tail 1 0 * 256 + get_or tail 2 0 * 65536 + get_or tail 3 0 * 16777216 → eqb c d ≡ crc_right l
unfolding crc_right number
crc_is l m tail c d s e f =
    let long : 4 ≤ length l = let h = s.2 in omega arith in
    let four : number tail ≡ d = omega arith in
    rw (le-leb 4 (length l) long) (ap₂ eqb (e ∙ ap crc_of s.0) (sym four ∙ ap number s.1))
