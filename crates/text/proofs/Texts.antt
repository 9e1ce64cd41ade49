-- Texts stand one after the other, and a whole text has room.
-- Assumes nothing.
use mathlib.Core.Path.{◌≡◌, refl, ap, ◌∙◌}
use mathlib.Core.Bool.{Bool, true, false, cond}
use mathlib.Core.List.{List, [], ◌∷◌, ◌++◌}
use Prim.Native.Nat.{ℕ, zero, suc, ◌+◌, ◌*◌, ◌-◌, ◌/◌, ◌%◌, ◌<◌, ◌≤◌}
use native.Mathlib.Nat.{add-zero, add-suc, suc-add}
use native.Mathlib.Numerals.{add-one}
use native.Mathlib.Omega.{arith}
use borrow.Author.Tests.{lt-ltb, le-ltb, le-leb}
use lib.Dec.{ltb, leb}
use lib.ListN.{length, drop, set, get_or, drop_of_length-le, length-append}
use lib.Seq.{drop-cons, sets, length-sets}
use borrow.Rule.Slice.PartMut.{put_mid}
use Rattle.std.proofs.lemmas.List.{drop-drop, append_assoc}
use Rattle.std.proofs.lemmas.List.Edits.{sets-eq}
use Rattle.text.specs.Ascii.{text}
use Rattle.text.specs.Hex.{digit_of, hex_of}
use Rattle.text.specs.Put.{decimal_of, spaced, octets_text, Puts, has_room, Prints}

sets_append : (l : List ℕ) (i : ℕ) (vs ws : List ℕ) → sets (sets l i vs) (i + length vs) ws ≡ sets l i (vs ++ ws)
sets_append l i [] ws = rw add-zero refl
sets_append l i (v ∷ vs) ws = rw (add-suc, ← suc-add) (sets_append (set l i v) (suc i) vs ws)

pub nothing : (b : List ℕ) (at : ℕ) → Puts b at [] at b
nothing b at = record { next = omega arith; stands = refl }

pub then : {b m a t u : List ℕ} {at r q : ℕ} → Puts b at t r m → Puts m r u q a → Puts b at (t ++ u) q a
then {b} {m} {a} {t} {u} {at} {r} {q} x y =
    let n = x.next in
    let k = y.next in
    record {
      next = omega (arith, length-append t u);
      stands = y.stands ∙ rw (x.stands, n) (sets_append b at t u);
    }

-- the lent octets keep their length
pub same : {b a t : List ℕ} {at r : ℕ} → Puts b at t r a → length a ≡ length b
same {b} {a} {t} {at} x = ap length x.stands ∙ length-sets b at t

-- ---- with room, and without

pub printed : {x : Bool} {b a t : List ℕ} {at r : ℕ} → x ≡ true → Puts b at t r a → Prints x b at t r a
printed e p = record { puts = rw e p }

pub not_printed : {x : Bool} (b t : List ℕ) (at : ℕ) → x ≡ false → Prints x b at t at b
not_printed b t at e = record { puts = rw e (nothing b at) }

-- whoever knows of the room has the text whole
pub is_printed : {x : Bool} {b a t : List ℕ} {at r : ℕ} → x ≡ true → Prints x b at t r a → Puts b at t r a
is_printed e p = rw e at p.puts

pub roomed : {b a t : List ℕ} {at r : ℕ} (need : ℕ) → at + need ≤ length b → Prints (has_room need b at) b at t r a → Puts b at t r a
roomed {b} {a} {t} {at} need h p = is_printed (le-leb (at + need) (length b) h) p

-- what is printed ends inside, if the text fits where it is printed
pub ends_inside : (x : Bool) {b a t : List ℕ} {at r : ℕ} → at ≤ length b → (x ≡ true → at + length t ≤ length b) → Prints x b at t r a → r ≤ length b
ends_inside true h fits p = let n = p.puts.next in let k = fits refl in omega arith
ends_inside false h fits p = let n = p.puts.next in omega arith

-- ---- an octet

pub octet : (l : List ℕ) (at b x y : ℕ) → x ≡ digit_of (b / 16) → y ≡ digit_of (b % 16) → Puts l at (hex_of b) (at + 2) (set (set l at x) (at + 1) y)
unfolding hex_of
octet l at b x y p q = record { next = refl; stands = rw (add-one, p, q) refl }

-- ---- a text, copied into its part of the lent octets

pub copied : (out t now : List ℕ) (at : ℕ) → at + length t ≤ length out → now ≡ t → Puts out at t (at + length t) (put_mid at (at + length t - at) out now)
copied out t now at h e =
    let k : at + length t - at ≡ length t = omega arith in
    record { next = refl; stands = rw (sets-eq t out at h, k, e) (simp (drop-drop, append_assoc)) }

-- ---- decimals

few_pick : (t : Bool) (k n : ℕ) → length (decimal_of k (n / 10)) ≤ k → length (cond t ((48 + n) ∷ []) (decimal_of k (n / 10) ++ ((48 + n % 10) ∷ []))) ≤ suc k
few_pick true k n h = omega arith
few_pick false k n h = omega (arith, length-append (decimal_of k (n / 10)) ((48 + n % 10) ∷ []))

pub few : (k n : ℕ) → length (decimal_of k n) ≤ k
unfolding decimal_of
few zero n = omega arith
few (suc k) n = few_pick (ltb n 10) k n (few k (n / 10))

none_left : (k n : ℕ) → k ≡ 0 → [] ≡ decimal_of k n
unfolding decimal_of
none_left k n e = rw e refl

one_digit : (k n : ℕ) → (k ≡ 0 → ⊥) → n < 10 → (48 + n) ∷ [] ≡ decimal_of k n
unfolding decimal_of
one_digit zero n z h = absurd (z refl)
one_digit (suc k) n z h = simp (lt-ltb n 10 h)

more_digits : (k n : ℕ) → (k ≡ 0 → ⊥) → 10 ≤ n → decimal_of (k - 1) (n / 10) ++ ((48 + n % 10) ∷ []) ≡ decimal_of k n
unfolding decimal_of
more_digits zero n z h = absurd (z refl)
more_digits (suc k) n z h =
    let j : suc k - 1 ≡ k = omega arith in
    rw j (simp (le-ltb n 10 h))

module _ (b : List ℕ) (at k n : ℕ) where
  pub stop : k ≡ 0 → Puts b at (decimal_of k n) at b
  stop e = rw (← none_left k n e) (nothing b at)

  module _ (z : k ≡ 0 → ⊥) where
    pub last_digit : {r : ℕ} {a : List ℕ} → n < 10 → Puts b at ((48 + n) ∷ []) r a → Puts b at (decimal_of k n) r a
    last_digit h p = rw (← one_digit k n z h) p

    pub other_digits : {r q : ℕ} {m a : List ℕ} → 10 ≤ n → Puts b at (decimal_of (k - 1) (n / 10)) r m → Puts m r ((48 + n % 10) ∷ []) q a → Puts b at (decimal_of k n) q a
    other_digits h p q = rw (← more_digits k n z h) (then p q)

-- ---- octets

pub record Run (before symbols : List ℕ) (at : ℕ) (out : List ℕ) (o i : ℕ) : Type 0 where
  pub inside : i ≤ length symbols
  pub place : o ≡ at + 3 * i
  pub kept : length out ≡ length before
  pub stores : sets out o (spaced (drop i symbols)) ≡ sets before at (spaced symbols)

pub begin : (before symbols : List ℕ) (at : ℕ) → Run before symbols at before at 0
begin before symbols at = record { inside = omega arith; place = omega arith; kept = refl; stores = refl }

long : (l : List ℕ) → length (spaced l) ≡ 3 * length l
unfolding spaced hex_of
long [] = refl
long (s ∷ l) = let h = long l in omega arith

module _ (before symbols : List ℕ) (at : ℕ) (out : List ℕ) (o i : ℕ) (st : Run before symbols at out o i) where
  pub goes_on : (r : ℕ) (after : List ℕ) → i < length symbols → Puts out o (0x20 ∷ hex_of (get_or symbols i 0)) r after → Run before symbols at after r (i + 1)
  unfolding spaced hex_of
  goes_on r after h p =
      let n = p.next in
      let k = st.place in
      let g = same p in
      let m = st.kept in
      let e : sets out o ((0x20 ∷ hex_of (get_or symbols i 0)) ++ spaced (drop (suc i) symbols)) ≡ sets before at (spaced symbols) = rw (drop-cons symbols i 0) at st.stores in
      record {
        inside = omega arith;
        place = omega arith;
        kept = omega arith;
        stores = rw (add-one i, p.stands, n) (sets_append out o (0x20 ∷ hex_of (get_or symbols i 0)) (spaced (drop (suc i) symbols)) ∙ e);
      }

  pub ends : length symbols ≤ i → Puts before at (spaced symbols) o out
  unfolding spaced
  ends h =
      let k = st.place in
      let m = st.inside in
      let l = long symbols in
      record { next = omega arith; stands = rw (drop_of_length-le symbols h) at st.stores }

spaced_text : (l : List ℕ) → (length l ≡ 0 → ⊥) → octets_text l ≡ spaced l
unfolding octets_text
spaced_text [] z = absurd (z refl)
spaced_text (s ∷ l) z = refl

pub no_octets : (l before after : List ℕ) (at r : ℕ) → length l ≡ 0 → Prints (has_room 2 before at) before at (text " -") r after
    → Prints (has_room (length (octets_text l)) before at) before at (octets_text l) r after
unfolding octets_text
no_octets [] before after at r e p = p
no_octets (s ∷ l) before after at r e p = absurd (omega arith)

-- the room of octets, one or more
spaced_room : (l before : List ℕ) (at : ℕ) → (length l ≡ 0 → ⊥) → has_room (length (octets_text l)) before at ≡ leb (at + 3 * length l) (length before)
spaced_room l before at z = ap (λ (n : ℕ). leb (at + n) (length before)) (ap length (spaced_text l z) ∙ long l)

pub some_octets : (l before after : List ℕ) (at r : ℕ) → (length l ≡ 0 → ⊥) → leb (at + 3 * length l) (length before) ≡ true → Puts before at (spaced l) r after
    → Prints (has_room (length (octets_text l)) before at) before at (octets_text l) r after
some_octets l before after at r z e p = printed (spaced_room l before at z ∙ e) (rw (spaced_text l z) p)

pub octets_unput : (l before : List ℕ) (at : ℕ) → (length l ≡ 0 → ⊥) → leb (at + 3 * length l) (length before) ≡ false
    → Prints (has_room (length (octets_text l)) before at) before at (octets_text l) at before
octets_unput l before at z e = not_printed before (octets_text l) at (spaced_room l before at z ∙ e)

-- a list of so many octets, one or more, has room for ` -` too
pub octets_long : (n : ℕ) (l : List ℕ) → length l ≤ suc n → length (octets_text l) ≤ 3 * suc n
unfolding octets_text
octets_long n [] h = omega arith
octets_long n (s ∷ l) h = let k = long (s ∷ l) in omega arith
