-- The transmit queue: its tokens, the set it begins with, one octet more, and each way in which it spells a message or none.
-- Assumes nothing.
use Rattle.std.specs.Bool.{then_some}
use Rattle.std.specs.List.{ends_with, find}
use Rattle.std.specs.Option.{option_map, unwrap_or, MatchOption}
use Rattle.std.specs.Prelude as rust
use Rattle.std.specs.Cmp.Lexicographic.{pointwise}
use mathlib.Core.Path.{◌≡◌, refl, sym, ap, ◌∙◌}
use mathlib.Core.Bool.{Bool, true, false, cond, ◌&&◌, and-false, and-eq-true_iff}
use mathlib.Core.List.{List, [], ◌∷◌, ◌++◌, map}
use mathlib.Core.Option.{Option, none, some}
use Prim.Native.Nat.{ℕ, zero, suc, ◌+◌, ◌-◌, ◌<◌, ◌≤◌}
use native.Mathlib.Numerals.{add-one}
use native.Mathlib.Omega.{arith}
use native.Mathlib.Decide.{dec_le}
use borrow.Author.Tests.{ltb-true, eqb-true, lt-ltb, le-leb, eq-eqb, ne_eqb}
use lib.Dec.{ltb, leb, eqb}
use lib.ListN.{length, take, drop, get_or, set, length-take, length-drop, get_or-eq_default}
use lib.Seq.{take-suc-set, length-take-le, get_or-take, take-take}
use Rattle.line.specs.declared.kind.SopKind.{SopKind}
use Rattle.line.specs.declared.kind.SopKind.TheVariants.{Sop, SopPrime, SopDoublePrime, SopPrimeDebug, SopDoublePrimeDebug}
use Rattle.line.specs.Numbered.{sop_number}
use Rattle.line.specs.Symbol.{sync_1, sync_2, sync_3, rst_1, rst_2}
use Rattle.line.specs.Kind.{ordered_sets, sop_kinds, carries, common, kind_from}
use Rattle.line.specs.Frame.{Frame}
use Rattle.machine.specs.Queue.{set_symbol, announced, to_come, same_list, closing, spelt_by, spelt}
use Rattle.machine.proofs.Spelling.{same_list_lem}
use Rattle.machine.proofs.Blocks.{to_come_append}
use Rattle.fusb302.specs.declared.queue.Message.{Message}
use Rattle.fusb302.specs.Queued.{spelt_as, sop_kind, sop_only, kind_of}

-- ---- lists compared

same_numbers : (x y : ℕ) → eqb x y ≡ eqb y x
same_numbers x y = go (eqb x y) refl
  where
    go : (b : Bool) → eqb x y ≡ b → b ≡ eqb y x
    go true e = sym (eq-eqb y x (sym (eqb-true x y e)))
    go false e = sym (ne_eqb y x (λ h. let z : ◌≡◌ {A = Bool} true false = sym (eq-eqb x y (sym h)) ∙ e in cc))

-- as the library compares slices
pub same_slices : (l s : List ℕ) → same_list l s ≡ pointwise eqb s l
same_slices [] [] = refl
same_slices [] (y ∷ s) = refl
same_slices (x ∷ l) [] = refl
same_slices (x ∷ l) (y ∷ s) = rw (same_numbers x y, same_slices l s) refl

-- ---- one octet more

pub pushed : (octets : List ℕ) (len b : ℕ) → len < length octets → take (len + 1) (set octets len b) ≡ take len octets ++ (b ∷ [])
pushed octets len b h = rw (add-one len, take-suc-set octets len b h)

-- a token that announces nothing announces 0
pub announced_or : (o : rust.Option ℕ) (n : ℕ) → MatchOption o (n ≡ 0) (λ k. (k ≡ n) × (2 ≤ k) × (k ≤ 30)) → unwrap_or o 0 ≡ n
announced_or rust.None n e = sym e
announced_or (rust.Some k) n e = e.0

after : (n b : ℕ) → (n ≡ 0 → ⊥) → to_come n (b ∷ []) ≡ n - 1
unfolding to_come
after zero b h = absurd (h refl)
after (suc n) b h = omega arith

module _ (q : List ℕ) (b : ℕ) where
  pub left_token : to_come 0 q ≡ 0 → to_come 0 (q ++ (b ∷ [])) ≡ announced b
  unfolding to_come
  left_token e = to_come_append 0 q (b ∷ []) ∙ ap (λ (n : ℕ). to_come n (b ∷ [])) e

  pub left_data : (to_come 0 q ≡ 0 → ⊥) → to_come 0 (q ++ (b ∷ [])) ≡ to_come 0 q - 1
  left_data h = to_come_append 0 q (b ∷ []) ∙ after (to_come 0 q) b h

-- ---- the SOP kind of four tokens

-- the token of a set's symbol
token_of : ℕ → ℕ
token_of y = cond (eqb y sync_1) 0x12 (cond (eqb y sync_2) 0x13 (cond (eqb y sync_3) 0x1B (cond (eqb y rst_1) 0x15 0x16)))

token_back : (x : ℕ) → set_symbol x < 32 → token_of (set_symbol x) ≡ x
unfolding set_symbol token_of
token_back x = go (eqb x 0x12) refl (eqb x 0x13) refl (eqb x 0x1B) refl (eqb x 0x15) refl (eqb x 0x16) refl
  where
    go : (a : Bool) → eqb x 0x12 ≡ a → (b : Bool) → eqb x 0x13 ≡ b → (c : Bool) → eqb x 0x1B ≡ c
        → (d : Bool) → eqb x 0x15 ≡ d → (e : Bool) → eqb x 0x16 ≡ e
        → cond a sync_1 (cond b sync_2 (cond c sync_3 (cond d rst_1 (cond e rst_2 32)))) < 32
        → token_of (cond a sync_1 (cond b sync_2 (cond c sync_3 (cond d rst_1 (cond e rst_2 32))))) ≡ x
    go true p b q c r d s e t h = sym (eqb-true x 0x12 p)
    go false p true q c r d s e t h = sym (eqb-true x 0x13 q)
    go false p false q true r d s e t h = sym (eqb-true x 0x1B r)
    go false p false q false r true s e t h = sym (eqb-true x 0x15 s)
    go false p false q false r false s true t h = sym (eqb-true x 0x16 t)
    go false p false q false r false s false t h = absurd (omega arith)

-- each octet is a token of a set
tokens : List ℕ → Bool
tokens [] = true
tokens (x ∷ l) = ltb (set_symbol x) 32 && tokens l

-- other octets than those of a set have fewer symbols in common with it
fewer : (s l : List ℕ) → tokens s ≡ true → length l ≡ length s → same_list l s ≡ false
    → common (map set_symbol s) (map set_symbol l) < length s
unfolding common tokens
fewer [] [] t n e = let z : ◌≡◌ {A = ℕ} 0 1 = cc in absurd (omega arith)
fewer [] (y ∷ l) t n e = absurd (omega arith)
fewer (x ∷ s) [] t n e = absurd (omega arith)
fewer (x ∷ s) (y ∷ l) t n e = go (eqb (set_symbol x) (set_symbol y)) refl (fewer s l)
  where
    go : (b : Bool) → eqb (set_symbol x) (set_symbol y) ≡ b
        → (tokens s ≡ true → length l ≡ length s → same_list l s ≡ false → common (map set_symbol s) (map set_symbol l) < length s)
        → cond b (suc (common (map set_symbol s) (map set_symbol l))) 0 < suc (length s)
    go false d ih = omega arith
    go true d ih =
        let parts = (and-eq-true_iff (ltb (set_symbol x) 32) (tokens s)).0 t in
        let h = ltb-true (set_symbol x) 32 parts.0 in
        let same = eqb-true (set_symbol x) (set_symbol y) d in
        let is : x ≡ y = sym (token_back x h) ∙ ap token_of same ∙ token_back y (omega arith) in
        let rest : same_list l s ≡ false = rw (eq-eqb y x (sym is)) at e in
        let more = ih parts.1 (omega arith) rest in
        omega arith

apart : (s l : List ℕ) → tokens s ≡ true → length s ≡ 4 → length l ≡ 4 → pointwise eqb s l ≡ false
    → eqb (common (map set_symbol s) (map set_symbol l)) 4 ≡ false
apart s l t n m e = let h = fewer s l t (omega arith) (same_slices l s ∙ e) in ne_eqb (common (map set_symbol s) (map set_symbol l)) 4 (omega arith)

-- Hard Reset is no SOP kind
hard_reset_only : (b : Bool) → none ≡ sop_only (cond b (some 5) none)
hard_reset_only true = refl
hard_reset_only false = refl

-- the tokens of the SOP kinds' sets
abbrev pub set_tokens : ℕ → List ℕ
set_tokens k =
    get_or ((0x12 ∷ 0x12 ∷ 0x12 ∷ 0x13 ∷ [])
    ∷ (0x12 ∷ 0x12 ∷ 0x1B ∷ 0x1B ∷ [])
    ∷ (0x12 ∷ 0x1B ∷ 0x12 ∷ 0x1B ∷ [])
    ∷ (0x12 ∷ 0x16 ∷ 0x16 ∷ 0x1B ∷ [])
    ∷ (0x12 ∷ 0x16 ∷ 0x1B ∷ 0x13 ∷ [])
    ∷ []) k []

module _ (l : List ℕ) where
  -- the library's comparison with the set of a kind
  abbrev is_set : ℕ → Bool
  is_set k = pointwise eqb (set_tokens k) l

  pub kind_is : (k : ℕ) → is_set k ≡ true → kind_of (set_tokens k) ≡ kind_of l
  kind_is k e = sym (ap kind_of (same_list_lem l (set_tokens k) (same_slices l (set_tokens k) ∙ e)))

  pub kind_none : length l ≡ 4
      → is_set 0 ≡ false → is_set 1 ≡ false → is_set 2 ≡ false → is_set 3 ≡ false → is_set 4 ≡ false → none ≡ kind_of l
  unfolding kind_from set_symbol tokens
  kind_none four a b c d e =
      rw (
        apart (set_tokens 0) l refl refl four a,
        apart (set_tokens 1) l refl refl four b,
        apart (set_tokens 2) l refl refl four c,
        apart (set_tokens 3) l refl refl four d,
        apart (set_tokens 4) l refl refl four e,
      )
      (hard_reset_only (eqb (common (get_or ordered_sets 5 []) (map set_symbol l)) 4))

-- the sets with their kinds, and whether octets begin with a set
abbrev pub sets : List (List ℕ × SopKind)
sets = (set_tokens 0, Sop) ∷ (set_tokens 1, SopPrime) ∷ (set_tokens 2, SopDoublePrime) ∷ (set_tokens 3, SopPrimeDebug) ∷ (set_tokens 4, SopDoublePrimeDebug) ∷ []

abbrev pub begins : List ℕ → List ℕ × SopKind → Bool
begins l x = pointwise eqb x.0 (take (length x.0) l)

in_sets : (l : List ℕ) → 4 ≤ length l → sop_kind (option_map (λ (x : List ℕ × SopKind). x.1) (find (begins l) sets)) ≡ kind_of (take 4 l)
unfolding kind_from common set_symbol
in_sets l h = go (is_set (take 4 l) 0) refl (is_set (take 4 l) 1) refl (is_set (take 4 l) 2) refl (is_set (take 4 l) 3) refl (is_set (take 4 l) 4) refl
  where
    go : (a : Bool) → is_set (take 4 l) 0 ≡ a → (b : Bool) → is_set (take 4 l) 1 ≡ b → (c : Bool) → is_set (take 4 l) 2 ≡ c
        → (d : Bool) → is_set (take 4 l) 3 ≡ d → (e : Bool) → is_set (take 4 l) 4 ≡ e
        → sop_kind (option_map (λ (x : List ℕ × SopKind). x.1) (cond a (rust.Some (set_tokens 0, Sop)) (cond b (rust.Some (set_tokens 1, SopPrime)) (cond c (rust.Some (set_tokens 2, SopDoublePrime)) (cond d (rust.Some (set_tokens 3, SopPrimeDebug)) (cond e (rust.Some (set_tokens 4, SopDoublePrimeDebug)) rust.None)))))) ≡ kind_of (take 4 l)
    go true p b q c r d s e t = kind_is (take 4 l) 0 p
    go false p true q c r d s e t = kind_is (take 4 l) 1 q
    go false p false q true r d s e t = kind_is (take 4 l) 2 r
    go false p false q false r true s e t = kind_is (take 4 l) 3 s
    go false p false q false r false s true t = kind_is (take 4 l) 4 t
    go false p false q false r false s false t = kind_none (take 4 l) (length-take-le 4 l h) p q r s t

-- what was found is a reference to a set and its kind
pub kind_found : {X : Type 0} (f : X → List ℕ × SopKind) (r : rust.Option X) (l : List ℕ) → 4 ≤ length l → option_map f r ≡ find (begins l) sets
    → sop_kind (option_map (λ (x : X). (f x).1) r) ≡ kind_of (take 4 l)
kind_found {X} f r l h e = ap sop_kind (fused r ∙ ap (option_map (λ (x : List ℕ × SopKind). x.1)) e) ∙ in_sets l h
  where
    fused : (o : rust.Option X) → option_map (λ (x : X). (f x).1) o ≡ option_map (λ (x : List ℕ × SopKind). x.1) (option_map f o)
    fused (rust.Some x) = refl
    fused rust.None = refl

-- ---- the message

-- the SOP kinds' numbers are below 5
pub sop_below : (s : SopKind) → sop_number s < sop_kinds
sop_below Sop = omega arith
sop_below SopPrime = omega arith
sop_below SopDoublePrime = omega arith
sop_below SopPrimeDebug = omega arith
sop_below SopDoublePrimeDebug = omega arith

pub sop_four : (s : SopKind) (k : ℕ) → sop_number s ≡ k → k ≤ 4
sop_four s k e = omega (arith, sop_below s)

-- of no SOP kind
no_sop : (k : Option ℕ) (n : ℕ) (q : List ℕ) → none ≡ sop_only k → none ≡ spelt_by k n q
unfolding spelt_by carries
no_sop none n q e = refl
no_sop (some k) n q e = go (ltb k sop_kinds) _ _ e
  where
    go : (a b : Bool) (f : Frame) → none ≡ cond a (some k) none → none ≡ cond (a && b) (some f) none
    go true b f e = let z : ◌≡◌ {A = ℕ} 0 1 = cc in absurd (omega arith)
    go false b f e = refl

-- of too few octets, or with another end
no_end : (k : Option ℕ) (n : ℕ) (q : List ℕ) → (leb 2 n && same_list (drop (5 + n) q) closing) ≡ false → none ≡ spelt_by k n q
unfolding spelt_by
no_end none n q e = refl
no_end (some k) n q e = simp (e, and-false)

longer : (a b : List ℕ) → (length a ≡ length b → ⊥) → same_list a b ≡ false
longer [] [] h = absurd (h refl)
longer [] (y ∷ b) h = refl
longer (x ∷ a) [] h = refl
longer (x ∷ a) (y ∷ b) h = simp (longer a b (λ e. h (ap suc e)), and-false)

chosen : (r : Bool) (m : Message) → spelt_as (then_some r m) ≡ cond r (some (record { kind = sop_number m.kind; octets = m.octets.now })) none
chosen true m = refl
chosen false m = refl

-- an SOP kind says which set it is
sop_is : (o : Option ℕ) (k : ℕ) → some k ≡ sop_only o → o ≡ some k
sop_is o k e = go o (sym e)
  where
    under : (j : ℕ) (b : Bool) → cond b (some j) none ≡ some k → some j ≡ some k
    under j true e = e
    under j false e = cc

    go : (o : Option ℕ) → sop_only o ≡ some k → o ≡ some k
    go none e = e
    go (some j) e = under j (ltb j sop_kinds) e

-- a part of a beginning that it does not leave
within : (a n len : ℕ) (l : List ℕ) → a + n ≤ len → take n (drop a (take len l)) ≡ take n (drop a l)
within zero n len l h = take-take n len l (omega arith)
within (suc a) n zero l h = absurd (omega arith)
within (suc a) n (suc len) [] h = refl
within (suc a) n (suc len) (x ∷ l) h = within a n len l (omega arith)

module _ (octets : List ℕ) (len : ℕ) where
  -- where the queue has no fifth octet, it announces nothing
  no_fifth : len ≤ 4 → announced (get_or (take len octets) 4 0) ≡ 0
  unfolding announced
  no_fifth h = rw (get_or-eq_default (take len octets) 0 {n = 4} (rw length-take (omega arith)))

  pub spelt_uncounted : announced (get_or octets 4 0) ≡ 0 → none ≡ spelt (take len octets)
  unfolding spelt
  spelt_uncounted e =
      let nothing : announced (get_or (take len octets) 4 0) ≡ 0 =
      elim (dec_le len 4) [
        | yes h ↦ no_fifth h
        | no h ↦ rw (get_or-take len octets 4 0 (omega arith)) e
      ] in
      no_end _ _ _ (simp nothing)

  pub spelt_misfit : len ≤ length octets → (len ≡ announced (get_or octets 4 0) + 8 → ⊥) → none ≡ spelt (take len octets)
  unfolding spelt
  spelt_misfit k n =
      let q = take len octets in
      let m = announced (get_or q 4 0) in
      let l = length-take-le len octets k in
      elim (dec_le len 4) [
        | yes h ↦ no_end _ m q (simp (no_fifth h))
        | no h ↦
            let same = ap announced (get_or-take len octets 4 0 (omega arith)) in
            no_end _ m q (simp (longer (drop (5 + m) q) closing (λ e. n (omega (arith, length-drop (5 + m) q))), and-false))
      ]

  -- the queue has the length of a message
  module _ (n : ℕ) (count : n ≡ announced (get_or octets 4 0)) (fits : len ≡ n + 8) (room : len ≤ length octets) where
    at_length : spelt (take len octets) ≡ spelt_by (kind_from 0 ordered_sets (map set_symbol (take 4 octets))) n (take len octets)
    unfolding spelt
    at_length = rw (take-take 4 len octets (omega arith), get_or-take len octets 4 0 (omega arith), ← count)

    -- of what set's kind it is, and whether it has a message's end
    pub spelt_unset : none ≡ kind_of (take 4 octets) → none ≡ spelt (take len octets)
    spelt_unset e = no_sop _ n (take len octets) e ∙ sym at_length

    pub spelt_set : (m : Message) → 2 ≤ n → some (sop_number m.kind) ≡ kind_of (take 4 octets) → m.octets.now ≡ take (5 + n - 5) (drop 5 octets)
        → (r : Bool) → r ≡ ends_with eqb (take len octets) closing
        → spelt_as (then_some r m) ≡ spelt (take len octets)
    unfolding spelt_by carries
    spelt_set m two kind cut r ends =
        let s = m.kind in
        let q = take len octets in
        let at : 5 + n ≡ length q - 3 = omega (arith, length-take-le len octets room) in
        let end : same_list (drop (5 + n) q) closing ≡ r =
        same_slices (drop (5 + n) q) closing ∙ ap (λ i. pointwise eqb closing (drop i q)) at ∙ sym ends in
        let sop : kind_from 0 ordered_sets (map set_symbol (take 4 octets)) ≡ some (sop_number s) = sop_is _ (sop_number s) kind in
        let is : m.octets.now ≡ take n (drop 5 q) =
        let less : 5 + n - 5 ≡ n = omega arith in
        cut ∙ rw less (sym (within 5 n len octets (omega arith))) in
        chosen r m
        ∙ sym (at_length ∙ rw (is, sop, end, le-leb 2 n two, lt-ltb (sop_number s) sop_kinds (sop_below s)) refl)
