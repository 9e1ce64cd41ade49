-- Which octets the transmit queue stores, and how many data octets are then to come.
-- Assumes nothing.
use mathlib.Core.Path.{◌≡◌, refl, sym, ◌∙◌, subst}
use mathlib.Core.Bool.{Bool, true, false, not, ◌&&◌, ◌||◌}
use mathlib.Core.List.{List, [], ◌∷◌, ◌++◌, map}
use Prim.Native.Nat.{ℕ, zero, suc, ◌+◌, ◌<◌, ◌≤◌}
use native.Mathlib.Omega.{arith}
use native.Mathlib.Decide.{dec_lt}
use borrow.Author.Tests.{ltb-true, lt-ltb, le-leb, lt-leb, ne_eqb}
use lib.Dec.{T, ltb, eqb}
use lib.ListN.{length}
use Rattle.line.specs.Kind.{kinds, set_of}
use Rattle.line.proofs.Table.{at}
use Rattle.machine.specs.Queue.{START, set_symbol, announced, is_token, to_come, closing}
use Rattle.machine.proofs.Spelling.{announces}

-- ---- octets one after the other

pub to_come_append : (n : ℕ) (q r : List ℕ) → to_come n (q ++ r) ≡ to_come (to_come n q) r
unfolding to_come
to_come_append n [] r = refl
to_come_append zero (x ∷ q) r = to_come_append (announced x) q r
to_come_append (suc n) (x ∷ q) r = to_come_append n q r

-- where n data octets are to come, v is stored: it is data, or a token other than start
abbrev pub storable : ℕ → ℕ → Bool
storable n v = ltb 0 n || (is_token v && not (eqb v START))

abbrev pub AllStored : ℕ → List ℕ → Type 0
AllStored n [] = Unit {0}
AllStored n (v ∷ l) = (storable n v ≡ true) × AllStored (to_come n (v ∷ [])) l

-- where n are to come, all octets of l are stored, and then k are to come
pub record Stores (n : ℕ) (l : List ℕ) (k : ℕ) : Type 0 where
  pub all : AllStored n l
  pub left : to_come n l ≡ k

nothing : (n : ℕ) → Stores n [] n
unfolding to_come
nothing n = record { all = tt; left = refl }

one_more : (n v : ℕ) (l : List ℕ) (k : ℕ) → storable n v ≡ true → Stores (to_come n (v ∷ [])) l k → Stores n (v ∷ l) k
one_more n v l k h r = record { all = (h, r.all); left = to_come_append n (v ∷ []) l ∙ r.left }

pub stores_append : (a b : List ℕ) (n k j : ℕ) → Stores n a k → Stores k b j → Stores n (a ++ b) j
unfolding to_come
stores_append [] b n k j r t = subst (λ (x : ℕ). Stores x b j) (sym r.left) t
stores_append (v ∷ a) b n k j r t =
    let m = to_come n (v ∷ []) in
    one_more n v (a ++ b) j r.all.0
    (stores_append a b m k j (record { all = r.all.1; left = sym (to_come_append n (v ∷ []) a) ∙ r.left }) t)

-- ---- the tokens of a set

no_symbol : (x : ℕ) → 0x82 ≤ x → set_symbol x ≡ 32
unfolding set_symbol
no_symbol x h =
    simp (
      ne_eqb x 0x12 (omega arith),
      ne_eqb x 0x13 (omega arith),
      ne_eqb x 0x1B (omega arith),
      ne_eqb x 0x15 (omega arith),
      ne_eqb x 0x16 (omega arith),
    )

module _ (x : ℕ) (symbol : set_symbol x < 32) where
  low : x < 0x82
  low =
      elim (dec_lt x 0x82) [
        | yes h ↦ h
        | no h ↦ absurd (omega (arith, no_symbol x (omega arith)))
      ]

  announces_none : announced x ≡ 0
  unfolding announced
  announces_none = simp (lt-leb 0x82 x low)

  token_stored : storable 0 x ≡ true
  unfolding is_token
  token_stored = let h = low in simp (lt-ltb (set_symbol x) 32 symbol, ne_eqb x START (omega arith))

symbols : List ℕ → Bool
symbols [] = true
symbols (y ∷ l) = ltb y 32 && symbols l

symbols_stored : (l : List ℕ) → T (symbols (map set_symbol l)) → Stores 0 l 0
unfolding symbols to_come
symbols_stored [] h = nothing 0
symbols_stored (x ∷ l) h = go (ltb (set_symbol x) 32) refl h (symbols_stored l)
  where
    go : (b : Bool) → ltb (set_symbol x) 32 ≡ b → T (b && symbols (map set_symbol l)) → (T (symbols (map set_symbol l)) → Stores 0 l 0)
        → Stores 0 (x ∷ l) 0
    go true e h ih =
        let y = ltb-true (set_symbol x) 32 e in
        one_more 0 x l 0 (token_stored x y) (rw (announces_none x y) (ih h))
    go false e h ih = absurd h

pub set_stored : (set : List ℕ) (k : ℕ) → k < kinds → map set_symbol set ≡ set_of k → Stores 0 set 0
unfolding symbols set_of
set_stored set k h e = symbols_stored set (subst (λ (l : List ℕ). T (symbols l)) (sym e) (at (λ j. symbols (set_of j)) kinds tt k h))

-- ---- a counted block, and what ends a message

octets_stored : (m : List ℕ) → Stores (length m) m 0
unfolding to_come
octets_stored [] = nothing 0
octets_stored (x ∷ m) = one_more (suc (length m)) x m 0 (rw (lt-ltb 0 (suc (length m)) (omega arith))) (octets_stored m)

pub block_stored : (m : List ℕ) → 2 ≤ length m → length m ≤ 30 → Stores 0 ((0x80 + length m) ∷ m) 0
unfolding to_come is_token
block_stored m lo hi =
    let x = 0x80 + length m in
    one_more 0 x m 0
    (simp (
      no_symbol x (omega arith),
      le-leb 0x82 x (omega arith),
      le-leb x 0x9E (omega arith),
      ne_eqb x START (omega arith),
    ))
    (rw (announces (length m) lo hi) (octets_stored m))

pub closing_stored : Stores 0 closing 0
unfolding to_come is_token set_symbol announced
closing_stored = record { all = (refl, (refl, (refl, tt))); left = refl }
