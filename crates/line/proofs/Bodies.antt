-- What follows the set of an SOP kind: octets as symbols, and EOP.
-- Assumes nothing.
use mathlib.Core.Path.{◌≡◌, refl, sym, ap, ◌∙◌}
use mathlib.Core.Bool.{Bool, true, false, cond, ◌&&◌, true≢false, and-eq-true_iff}
use mathlib.Core.List.{List, [], ◌∷◌, ◌++◌, append_assoc}
use Prim.Native.Nat.{ℕ, zero, suc, ◌+◌, ◌*◌, ◌-◌, ◌%◌, ◌<◌, ◌≤◌}
use native.Mathlib.Omega.{arith}
use native.Mathlib.Decide.{dec_lt}
use borrow.Author.Tests.{ltb-true, ltb-false, leb-true, eqb-true, eqb-false, lt-ltb, le-leb, eq-eqb, ne_eqb}
use lib.Dec.{ltb, leb, eqb, lit<}
use lib.ListN.{length, take, drop, get_or, replicate, length-append, length-replicate, get_or-append}
use lib.Seq.{take_at, length-take-le, get_or_at, get_or-take, split_at}
use Rattle.line.proofs.Nibbles.{Nibbles, nibbles_at, nibbles_append, encoded_nibbles, length_encoded, octets_encoded, octets_of_lem, encoded_octets}
use Rattle.line.proofs.Looks.{Begun, Part, whole_part, Stands, Ends, Says}
use Rattle.line.specs.Symbol.{eop, place_of, nibble_of, is_nibble, encoded, octets_of}
use Rattle.line.specs.Frame.{Octets}
use Rattle.line.specs.Read.{found, short, misfit, nibble_run, may_end, end_or, body_at}

-- ---- the nibbles that a list begins with

-- r is their number, n at most
pub record Run (n : ℕ) (l : List ℕ) (r : ℕ) : Type 0 where
  pub most : r ≤ n
  pub within : r ≤ length l
  pub nibbles : Nibbles (take r l)
  pub stop : r < n → r < length l → 16 ≤ nibble_of (get_or l r 0)

no_run : (n : ℕ) (l : List ℕ) → (0 < n → 0 < length l → 16 ≤ nibble_of (get_or l 0 0)) → Run n l 0
no_run n l stop = record { most = omega arith; within = omega arith; nibbles = tt; stop = stop }

pub run : (n : ℕ) (l : List ℕ) → Run n l (nibble_run n l)
unfolding nibble_run is_nibble
run zero l = no_run zero l (λ g h. absurd (omega arith))
run (suc n) [] = no_run (suc n) [] (λ g h. absurd (omega arith))
run (suc n) (s ∷ l) = go (ltb (nibble_of s) 16) refl (run n l)
  where
    go : (b : Bool) → ltb (nibble_of s) 16 ≡ b → Run n l (nibble_run n l) → Run (suc n) (s ∷ l) (cond b (suc (nibble_run n l)) 0)
    go true e r =
        let h = r.most in
        let w = r.within in
        record {
          most = omega arith;
          within = omega arith;
          nibbles = (ltb-true (nibble_of s) 16 e, r.nibbles);
          stop = λ p q. r.stop (omega arith) (omega arith);
        }
    go false e r = no_run (suc n) (s ∷ l) (λ g h. ltb-false (nibble_of s) 16 e)

-- nibbles up to EOP
run_back : (a x : List ℕ) (n : ℕ) → Nibbles a → length a ≤ n → nibble_run n (a ++ (eop ∷ x)) ≡ length a
unfolding nibble_run is_nibble nibble_of place_of
run_back [] x zero q h = refl
run_back [] x (suc n) q h = refl
run_back (s ∷ a) x zero q h = absurd (omega arith)
run_back (s ∷ a) x (suc n) q h = simp (lt-ltb (nibble_of s) 16 q.0, run_back a x n q.1 (omega arith))

-- ---- where a message may end

pub record End (n s : ℕ) : Type 0 where
  pub is_eop : s ≡ eop
  pub many : 12 ≤ n
  pub even : n % 2 ≡ 0

pub end_true : (n s : ℕ) → may_end n s ≡ true → End n s
unfolding may_end
end_true n s e =
    let p = (and-eq-true_iff (eqb s eop) (leb 12 n && eqb (n % 2) 0)).0 e in
    let q = (and-eq-true_iff (leb 12 n) (eqb (n % 2) 0)).0 p.1 in
    record { is_eop = eqb-true s eop p.0; many = leb-true 12 n q.0; even = eqb-true (n % 2) 0 q.1 }

true_end : (n s : ℕ) → End n s → may_end n s ≡ true
unfolding may_end
true_end n s e = simp (eq-eqb s eop e.is_eop, le-leb 12 n e.many, eq-eqb (n % 2) 0 e.even)

-- ---- messages

-- the octets of a message with its CRC
pub record Sized (m : List ℕ) : Type 0 where
  pub octets : Octets m
  pub many : 6 ≤ length m
  pub few : length m ≤ 34

abbrev pub body : List ℕ → List ℕ
body m = encoded m ++ (eop ∷ [])

pub body_back : (m x : List ℕ) → Sized m → body_at (body m ++ x) ≡ found m
unfolding body_at end_or
body_back m x sized =
    let l = encoded m ++ (eop ∷ x) in
    let q = length_encoded m in
    let c = sized.many in
    let d = sized.few in
    let n = length (encoded m) in
    let longer : eqb n (length l) ≡ false = ne_eqb n (length l) (omega (arith, length-append (encoded m) (eop ∷ x))) in
    let end : may_end n eop ≡ true = true_end n eop (record { is_eop = refl; many = omega arith; even = omega arith }) in
    simp (
      append_assoc,
      run_back (encoded m) x 68 (encoded_nibbles m sized.octets) (omega arith),
      longer,
      get_or_at (encoded m) eop x 0 n refl,
      end,
      take_at (encoded m) (eop ∷ x) n refl,
      octets_encoded m sized.octets,
    )

-- an even number of nibbles, 12 to 68
of_nibbles : (a : List ℕ) → Nibbles a → length a % 2 ≡ 0 → 12 ≤ length a → length a ≤ 68 → Sized (octets_of a)
of_nibbles a q even lo hi =
    let n : length a ≡ 2 * length (octets_of a) = sym (ap length (encoded_octets a q even)) ∙ length_encoded (octets_of a) in
    record { octets = octets_of_lem a q; many = omega arith; few = omega arith }

zeros : (n : ℕ) → Nibbles (replicate n 0x1E)
unfolding nibble_of place_of
zeros zero = tt
zeros (suc n) = (lit< tt, zeros n)

-- up to 68 nibbles begin a message: the one with nibbles 0 behind them, 68 in all
nibbles_part : (a : List ℕ) → Nibbles a → length a ≤ 68 → Part Sized body a
nibbles_part a q h =
    let pad : List ℕ = replicate (68 - length a) 0x1E in
    let b = a ++ pad in
    let n : length b ≡ 68 = omega (arith, length-append a pad, length-replicate {A = ℕ} (68 - length a) 0x1E) in
    let nibbles = nibbles_append a pad q (zeros (68 - length a)) in
    let even : length b % 2 ≡ 0 = omega arith in
    record {
      begun =
          record {
            thing = octets_of b;
            right = of_nibbles b nibbles even (omega arith) (omega arith);
            rest = pad ++ (eop ∷ []);
            is = sym (append_assoc a pad (eop ∷ [])) ∙ ap (λ (x : List ℕ). x ++ (eop ∷ [])) (sym (encoded_octets b nibbles even));
          };
      more = omega (arith, length-append pad (eop ∷ []));
    }

-- ---- what is found behind a set

module _ (l : List ℕ) where
  count : ℕ
  count = nibble_run 68 l

  part : Part Sized body (take count l)
  unfolding count
  part = let r = run 68 l in nibbles_part (take count l) r.nibbles (omega (arith, r.most, length-take-le count l r.within))

  stands : count < length l → may_end count (get_or l count 0) ≡ true → Stands Sized body l (octets_of (take count l))
  unfolding count
  stands h e =
      let r = run 68 l in
      let end = end_true count (get_or l count 0) e in
      let n = length-take-le count l r.within in
      let many = end.many in
      let most = r.most in
      let even : length (take count l) % 2 ≡ 0 = rw n end.even in
      record {
        right = of_nibbles (take count l) r.nibbles even (omega arith) (omega arith);
        rest = drop (suc count) l;
        is =
            split_at l count 0 h
            ∙ ap (λ (s : ℕ). take count l ++ s ∷ drop (suc count) l) end.is_eop
            ∙ sym (append_assoc (take count l) (eop ∷ []) (drop (suc count) l))
            ∙ ap (λ (a : List ℕ). a ++ (eop ∷ []) ++ drop (suc count) l) (sym (encoded_octets (take count l) r.nibbles even));
      }

  -- a symbol that fits behind the nibbles is EOP, at a place for it
  fits : Begun Sized body (take (suc count) l) → count < length l → End count (get_or l count 0)
  unfolding count
  fits b h =
      let m = b.thing in
      let s = get_or l count 0 in
      let many = b.right.many in
      let few = b.right.few in
      let encoded-long = length_encoded m in
      let taken = length-take-le (suc count) l h in
      let long : suc count + length b.rest ≡ 2 * length m + 1 =
      omega (arith, simp length-append at (ap length b.is), taken) in
      let same : s ≡ get_or (body m) count 0 =
      sym (get_or-take (suc count) l count 0 (omega arith))
      ∙ sym (get_or-append (take (suc count) l) b.rest 0 count (omega arith))
      ∙ ap (λ (x : List ℕ). get_or x count 0) b.is in
      elim (dec_lt count (length (encoded m))) [
        | yes p ↦
            let here : s ≡ get_or (encoded m) count 0 = same ∙ get_or-append (encoded m) (eop ∷ []) 0 count p in
            let nibble : nibble_of s < 16 = rw here (nibbles_at (encoded m) (encoded_nibbles m b.right.octets) count p) in
            absurd (omega (arith, (run 68 l).stop (omega arith) h))
        | no p ↦ record { is_eop = same ∙ get_or_at (encoded m) eop [] 0 count (omega arith); many = omega arith; even = omega arith }
      ]

  ends : count < length l → may_end count (get_or l count 0) ≡ false → Ends Sized body l count
  unfolding count
  ends h e =
      record {
        within = h;
        part = part;
        no_more = λ b. let z : true ≡ false = sym (true_end count (get_or l count 0) (fits b h)) ∙ e in true≢false z;
      }

  at_end : count < length l → (b : Bool) → may_end count (get_or l count 0) ≡ b
      → Says Sized body l (cond b (found (octets_of (take count l))) (misfit count))
  at_end h true e = stands h e
  at_end h false e = ends h e

  pub body_says : Says Sized body l (body_at l)
  unfolding body_at end_or count
  body_says = go (eqb count (length l)) refl
    where
      go : (b : Bool) → eqb count (length l) ≡ b
          → Says Sized body l (cond b (short count) (cond (may_end count (get_or l count 0)) (found (octets_of (take count l))) (misfit count)))
      go true e =
          let p = eqb-true count (length l) e in
          (whole_part Sized body l count p part, p)
      go false e = at_end (omega (arith, eqb-false count (length l) e, (run 68 l).within)) _ refl
