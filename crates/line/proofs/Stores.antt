-- Runs of stores: what the writer leaves in the lent symbols, and the reader in the lent octets.
-- Assumes nothing.
use mathlib.Core.Path.{◌≡◌, refl, sym, ap, ◌∙◌}
use mathlib.Core.List.{List, [], ◌∷◌, ◌++◌, append-nil, append_assoc}
use Prim.Native.Nat.{ℕ, suc, ◌+◌, ◌-◌, ◌*◌, ◌/◌, ◌<◌, ◌≤◌}
use native.Mathlib.Nat.{add-zero, zero-add}
use native.Mathlib.Numerals.{add-one}
use native.Mathlib.Omega.{arith}
use lib.Bits.{bit_and, and_mask}
use lib.ListN.{length, length-drop, take, drop, set, get_or, drop_of_length-le}
use lib.Seq.{drop-cons, sets, sets-eq, length-take-le, get_or-take}
use borrow.Rule.Slice.PartMut.{put_mid}
use Rattle.std.proofs.lemmas.List.{drop-drop, take_rest}
use Rattle.line.specs.Symbol.{symbol_of, encoded, nibble_of, octets_of}

-- ---- runs

-- a run of stores goes on at j, where it ended
pub sets_append : (l : List ℕ) (i : ℕ) (vs ws : List ℕ) (j : ℕ) → j ≡ i + length vs → sets (sets l i vs) j ws ≡ sets l i (vs ++ ws)
sets_append l i [] ws j e = rw (e, add-zero) refl
sets_append l i (v ∷ vs) ws j e = sets_append (set l i v) (suc i) vs ws j (omega arith)

-- a run from the first place on: it, and then what stood there
pub sets_front : (vs l : List ℕ) → length vs ≤ length l → sets l 0 vs ≡ vs ++ drop (length vs) l
sets_front vs l h = sets-eq vs l 0 (omega arith) ∙ rw zero-add refl

-- what is lent from i on, and what is then there with new in its place
abbrev pub lent_from : ℕ → List ℕ → List ℕ
lent_from i S = take (length S - i) (drop i S)

abbrev pub put_from : ℕ → List ℕ → List ℕ → List ℕ
put_from i S new = put_mid i (length S - i) S new

pub sets_behind : (S vs new : List ℕ) (i : ℕ) → i + length vs ≤ length S → new ≡ sets (lent_from i S) 0 vs → put_from i S new ≡ sets S i vs
sets_behind S vs new i h e =
    let part : new ≡ vs ++ drop (i + length vs) S =
    e
    ∙ ap (λ (l : List ℕ). sets l 0 vs) (take_rest S i)
    ∙ sets_front vs (drop i S) (let n = length-drop i S in omega arith)
    ∙ ap (λ (l : List ℕ). vs ++ l) (drop-drop (length vs) i S) in
    let none : drop (length S - i) (drop i S) ≡ [] = drop_of_length-le (drop i S) {i = length S - i} (let n = length-drop i S in omega arith) in
    ap (λ (l : List ℕ). take i S ++ (new ++ l)) none ∙ rw (append-nil new, part) (sym (append_assoc (take i S) vs (drop (i + length vs) S)) ∙ sym (sets-eq vs S i h))

-- the first n elements replaced
pub front_put : (S vs new : List ℕ) (n : ℕ) → length vs ≡ n → n ≤ length S → new ≡ vs → new ++ drop n S ≡ sets S 0 vs
front_put S vs new n e h p = ap (λ (l : List ℕ). l ++ drop n S) p ∙ ap (λ (i : ℕ). vs ++ drop i S) (sym e) ∙ sym (sets_front vs S (omega arith))

-- ---- octets as symbols: the stores to come and those that were made are the whole run

pub put_more : (S T octets : List ℕ) (i a b : ℕ) → i < length octets
    → a ≡ symbol_of (bit_and (get_or octets i 0) 15) → b ≡ symbol_of (get_or octets i 0 / 16)
    → sets S (2 * i) (encoded (drop i octets)) ≡ T
    → sets (set (set S (2 * i) a) (2 * i + 1) b) (2 * (i + 1)) (encoded (drop (i + 1) octets)) ≡ T
unfolding encoded
put_more S T octets i a b h p q e =
    let next : 2 * (i + 1) ≡ suc (suc (2 * i)) = omega arith in
    rw (next, add-one i, add-one (2 * i), p, and_mask (get_or octets i 0) 4, q) (rw (drop-cons octets i 0) at e)

pub put_all : (S T octets : List ℕ) (o i : ℕ) → length octets ≤ i → sets S o (encoded (drop i octets)) ≡ T → S ≡ T
unfolding encoded
put_all S T octets o i h e = rw (drop_of_length-le octets) at e

-- ---- symbols as octets, from the symbols b

-- the octets of the pairs of nibbles from the i-th to the n-th
abbrev pub pairs : List ℕ → ℕ → ℕ → List ℕ
pairs b n i = octets_of (drop (2 * i) (take (2 * n) b))

pub get_more : (S T b : List ℕ) (n i o : ℕ) → i < n → 2 * n ≤ length b
    → o ≡ nibble_of (get_or b (2 * i) 0) + 16 * nibble_of (get_or b (2 * i + 1) 0)
    → sets S i (pairs b n i) ≡ T → sets (set S i o) (i + 1) (pairs b n (i + 1)) ≡ T
unfolding octets_of
get_more S T b n i o h k p e =
    let l = take (2 * n) b in
    let z = length-take-le (2 * n) b k in
    let s : drop (2 * i) l ≡ get_or b (2 * i) 0 ∷ drop (suc (2 * i)) l =
    drop-cons l (2 * i) 0 (omega arith) ∙ ap (λ (v : ℕ). v ∷ drop (suc (2 * i)) l) (get_or-take (2 * n) b (2 * i) 0 (omega arith)) in
    let t : drop (suc (2 * i)) l ≡ get_or b (2 * i + 1) 0 ∷ drop (suc (suc (2 * i))) l =
    drop-cons l (suc (2 * i)) 0 (omega arith)
    ∙ ap (λ (v : ℕ). v ∷ drop (suc (suc (2 * i))) l) (get_or-take (2 * n) b (suc (2 * i)) 0 (omega arith) ∙ ap (λ (v : ℕ). get_or b v 0) (sym (add-one (2 * i)))) in
    let u : suc (suc (2 * i)) ≡ 2 * (i + 1) = omega arith in
    rw (add-one i, p) (rw (s, t, u, add-one i) at e)

pub get_all : (S T b : List ℕ) (n i : ℕ) → n ≤ i → 2 * n ≤ length b → sets S i (pairs b n i) ≡ T → S ≡ T
unfolding octets_of
get_all S T b n i h k e =
    let p : drop (2 * i) (take (2 * n) b) ≡ [] = drop_of_length-le (take (2 * n) b) {i = 2 * i} (rw (length-take-le (2 * n) b k) (omega arith)) in
    rw p at e
