-- The reader's answer: nibbles counted, octets gathered, and the answer of each way out.
-- Assumes nothing.
use mathlib.Core.Path.{◌≡◌, refl, sym, ap, ap₂, ◌∙◌, subst}
use mathlib.Core.Bool.{Bool, true, false, cond}
use mathlib.Core.List.{List, [], ◌∷◌, ◌++◌, append-nil}
use Prim.Native.Nat.{ℕ, zero, suc, ◌+◌, ◌*◌, ◌-◌, ◌/◌, ◌<◌, ◌≤◌}
use native.Mathlib.Omega.{arith}
use borrow.Author.Tests.{le-ltb, eq-eqb, ne_eqb}
use lib.ListN.{length, take, drop, get_or, drop_of_length-le, length-drop}
use lib.Seq.{get_or-take, take_all, take_at, length-take-le, sets}
use Rattle.std.specs.Prelude.{Result, Ok, Err, take_while}
use Rattle.std.proofs.lemmas.List.Sums.{take_while-cons}
use Rattle.line.specs.declared.kind.SopKind.{SopKind}
use Rattle.line.specs.declared.kind.Kind.{Kind}
use Rattle.line.specs.declared.kind.Kind.TheVariants.{Message, HardReset}
use Rattle.line.specs.declared.read.FoundFrame.{FoundFrame}
use Rattle.line.specs.declared.read.ReadError.{ReadError}
use Rattle.line.specs.declared.read.ReadError.TheVariants.{SmallBuffer, NoFrame, TooShort, WrongCrc}
use Rattle.line.specs.declared.sets.Start.{Start}
use Rattle.line.specs.Numbered.{sop_number, kind_number}
use Rattle.line.specs.Symbol.{nibble_of, is_nibble, octets_of}
use Rattle.line.specs.Kind.{sop_kinds}
use Rattle.line.specs.Crc.{crc_right}
use Rattle.line.specs.Frame.{Shape, drawn}
use Rattle.line.specs.Read.{Look, found, short, misfit, TakenSet, set_at, nibble_run, may_end, end_or, body_at, with_set, shape_behind, ReadFrame, frame, wrong_crc, checked, first_of, after_set, first}
use Rattle.line.specs.Taken.{TakenAs}
use Rattle.line.specs.Start.{TakesSet}
use Rattle.line.specs.Reader.{octet_room, was_read, said, says_of, filled, Tells, Reads}
use Rattle.line.proofs.Numbers.{sop_below}
use Rattle.line.proofs.Nibbles.{nibbles_at}
use Rattle.line.proofs.Starts.{set_length}
use Rattle.line.proofs.Agreeing.{taken_kind, taken_long, SetMeans, set_means}
use Rattle.line.proofs.Bodies.{run, End, end_true}
use Rattle.line.proofs.Shapes.{length_drawn}
use Rattle.line.proofs.Stores.{sets_front}
use Rattle.line.proofs.Writing.{carrying, bare}

-- ---- a part of the record

pub part_is : (l : List ℕ) (n : ℕ) → take (length l - n) (drop n l) ≡ drop n l
part_is l n = take_all (length l - n) (drop n l) (rw length-drop (omega arith))

-- how much of the record a part has
pub rest_long : (l rest : List ℕ) (n : ℕ) → rest ≡ drop n l → length rest ≡ length l - n
rest_long l rest n e = ap length e ∙ length-drop n l

-- ---- nibbles counted

pub counted : (n : ℕ) (l : List ℕ) → length (take_while is_nibble (take n l)) ≡ nibble_run n l
unfolding nibble_run
counted zero l = refl
counted (suc n) [] = refl
counted (suc n) (s ∷ l) =
    ap length (take_while-cons is_nibble s (take n l)) ∙ go (is_nibble s) (counted n l)
  where
    go : (b : Bool) → length (take_while is_nibble (take n l)) ≡ nibble_run n l
        → length (cond b (s ∷ take_while is_nibble (take n l)) []) ≡ cond b (suc (nibble_run n l)) 0
    go true e = ap suc e
    go false e = refl

-- ---- octets gathered

pub nibble_at : (l : List ℕ) (i : ℕ) → i < nibble_run 68 l → nibble_of (get_or l i 0) < 16
nibble_at l i h =
    let r = run 68 l in
    let n = length-take-le (nibble_run 68 l) l r.within in
    let q = nibbles_at (take (nibble_run 68 l) l) r.nibbles i (omega arith) in
    rw (get_or-take (nibble_run 68 l) l i 0 h) at q

pairs_length : (n : ℕ) (l : List ℕ) → length l ≡ 2 * n → length (octets_of l) ≡ n
unfolding octets_of
pairs_length zero [] e = refl
pairs_length zero (s ∷ l) e = absurd (omega arith)
pairs_length (suc n) [] e = absurd (omega arith)
pairs_length (suc n) (s ∷ []) e = absurd (omega arith)
pairs_length (suc n) (s ∷ t ∷ l) e = ap suc (pairs_length n l (omega arith))

module _ (body : List ℕ) (n : ℕ) (h : 2 * n ≤ nibble_run 68 body) where
  pub pairs_within : 2 * n ≤ length body
  pairs_within = let z = (run 68 body).within in omega arith

  pub length_pairs : length (octets_of (take (2 * n) body)) ≡ n
  length_pairs = pairs_length n (take (2 * n) body) (length-take-le (2 * n) body pairs_within)

-- as many as are lent
pub all_gathered : (lent vs : List ℕ) → length vs ≡ length lent → sets lent 0 vs ≡ vs
all_gathered lent vs e = sets_front vs lent (omega arith) ∙ ap (λ (l : List ℕ). vs ++ l) (drop_of_length-le lent (omega arith)) ∙ append-nil vs

-- ---- a message by its CRC: its n octets are held in an array

module _ (array body new : List ℕ) (n : ℕ) (room : n ≤ length array) (few : 2 * n ≤ nibble_run 68 body)
    (gets : new ≡ octets_of (take (2 * length (take n array)) body)) where
  pub held_octets : take n (new ++ drop n array) ≡ octets_of (take (2 * n) body)
  held_octets =
      let e : new ≡ octets_of (take (2 * n) body) = gets ∙ ap (λ (i : ℕ). octets_of (take (2 * i) body)) (length-take-le n array room) in
      take_at new (drop n array) n (ap length e ∙ length_pairs body n few) ∙ e

module _ (held : List ℕ) (kind : SopKind) (m : List ℕ) (n : ℕ) (long : length m ≡ n) (held_is : held ≡ m) where
  abbrev s : Shape
  s = record { kind = sop_number kind; octets = m }

  module _ (at : ℕ) (exact : Bool) (before : List ℕ) (lent : n ≤ length before) (b : Bool) (e : b ≡ crc_right held) where
    abbrev read : ReadFrame
    read = record { shape = s; exact = exact }

    by_crc : checked exact s ≡ cond b (frame read) (wrong_crc (4 + 2 * n))
    unfolding checked
    by_crc =
        ap (λ (t : Bool). cond t (cond (crc_right s.octets) (frame read) (wrong_crc (4 + 2 * length s.octets))) (frame read)) (carrying s.kind (sop_below kind))
        ∙ ap₂ (λ (t : Bool) (i : ℕ). cond t (frame read) (wrong_crc (4 + 2 * i))) (sym (e ∙ ap crc_right held_is)) long

    pub crc_wrong : b ≡ false → Tells at (checked exact s) before (Err (WrongCrc (4 + 2 * n))) before
    unfolding says_of filled
    crc_wrong f =
        let q : checked exact s ≡ wrong_crc (4 + 2 * n) = by_crc ∙ rw f refl in
        rw q (record { says = refl; leaves = refl })

    pub crc_agrees : b ≡ true → (after : List ℕ) → after ≡ held ++ drop n before
        → Tells at (checked exact s) before (Ok (record { kind = Message kind; exact = exact; count = n; next = record { at = at + 5 + 2 * n } })) after
    unfolding says_of filled
    crc_agrees f after g =
        let d = length_drawn s (sop_below kind) in
        let q : checked exact s ≡ frame read = by_crc ∙ rw f refl in
        rw q
        (record {
          says = ap₂ (was_read s.kind exact) (sym long) (omega arith);
          leaves = g ∙ ap₂ (λ (l : List ℕ) (i : ℕ). l ++ drop i before) held_is (sym long);
        })

-- ---- what follows a set

module _ (at k : ℕ) (exact : Bool) (body before : List ℕ) (n : ℕ) (e : n ≡ nibble_run 68 body) where
  body_is : body_at body ≡ end_or n body
  unfolding body_at
  body_is = ap (λ (i : ℕ). end_or i body) (sym e)

  pub body_most : n ≤ 68
  body_most = let z = (run 68 body).most in omega arith

  pub body_within : n ≤ length body
  body_within = let z = (run 68 body).within in omega arith

  pub body_short : length body ≤ n → Tells at (first_of exact (with_set k (body_at body))) before (Err (TooShort (4 + n))) before
  unfolding end_or with_set first_of says_of filled
  body_short h =
      let q : end_or n body ≡ short n = simp (eq-eqb n (length body) (let z = body_within in omega arith)) in
      rw (body_is ∙ q) (record { says = refl; leaves = refl })

  module _ (more : n < length body) (symbol : ℕ) (is : symbol ≡ get_or body n 0) (b : Bool) (t : b ≡ may_end n symbol) where
    at_end : end_or n body ≡ cond b (found (octets_of (take n body))) (misfit n)
    unfolding end_or
    at_end = simp (ne_eqb n (length body) (λ e. absurd (omega (arith, more, e))), ← is, ← t)

    pub body_misfit : b ≡ false → Tells at (first_of exact (with_set k (body_at body))) before (Err (NoFrame (4 + n))) before
    unfolding with_set first_of says_of filled
    body_misfit f =
        let q : end_or n body ≡ misfit n = at_end ∙ simp f in
        rw (body_is ∙ q) (record { says = refl; leaves = refl })

    module _ (f : b ≡ true) where
      pub ending : End n symbol
      ending = end_true n symbol (sym t ∙ f)

      pub pairs : 2 * (n / 2) ≡ n
      pairs = let z = ending.even in omega arith

      pub body_whole : (r : Result FoundFrame ReadError) (after : List ℕ)
          → Tells at (checked exact (record { kind = k; octets = octets_of (take (2 * (n / 2)) body) })) before r after
          → Tells at (first_of exact (with_set k (body_at body))) before r after
      unfolding with_set first_of
      body_whole r after h =
          let q : end_or n body ≡ found (octets_of (take n body)) = at_end ∙ simp f in
          rw (body_is ∙ q) (rw pairs at h)

-- ---- a set is taken

module _ (l : List ℕ) (k : ℕ) (exact : Bool) (e : set_at l ≡ found (record { kind = k; exact = exact })) where
  set_taken : TakenAs l k exact
  set_taken = subst (SetMeans l) e (set_means l)

  pub set_fits : 4 ≤ length l
  set_fits = taken_long l k exact set_taken

-- ---- the ways out

module _ (line before part : List ℕ) (at : ℕ) (room : octet_room ≤ length before) (is : part ≡ drop at line) where
  by : (r : Result FoundFrame ReadError) (after : List ℕ) → Tells at (first part) before r after → Reads line at before r after
  by r after t =
      record {
        says = rw (le-ltb (length before) octet_room room) (subst (λ (l : List ℕ). said r ≡ says_of at (first l)) is t.says);
        leaves = rw (le-ltb (length before) octet_room room) (subst (λ (l : List ℕ). after ≡ filled (first l) before) is t.leaves);
      }

  -- no set is taken
  pub set_refused : (e : ReadError) → TakesSet part (Err e) → Reads line at before (Err e) before
  unfolding first after_set says_of filled
  set_refused SmallBuffer t = absurd t
  set_refused (NoFrame p) t = by (Err (NoFrame p)) before (rw t (record { says = refl; leaves = refl }))
  set_refused (TooShort p) t = by (Err (TooShort p)) before (rw t (record { says = refl; leaves = refl }))
  set_refused (WrongCrc p) t = absurd t

  module _ (start : Start Kind) (t : TakesSet part (Ok start)) where
    abbrev k : ℕ
    k = kind_number start.kind

    first_is : first part ≡ first_of start.exact (shape_behind k (drop 4 part))
    unfolding first after_set
    first_is = ap (λ (x : Look TakenSet). after_set x part) t

    pub set_alone : start.kind ≡ HardReset → Reads line at before (Ok (record { kind = start.kind; exact = start.exact; count = 0; next = record { at = at + 4 } })) before
    unfolding shape_behind first_of checked says_of filled drawn
    set_alone e =
        let h : sop_kinds ≤ k = rw e (omega arith) in
        let s : Shape = record { kind = k; octets = [] } in
        let q : first part ≡ frame (record { shape = record { kind = k; octets = [] }; exact = start.exact }) = first_is ∙ simp (bare k h) in
        let known = taken_kind part k start.exact (set_taken part k start.exact t) in
        let n : length (drawn s) ≡ 4 = simp (bare k h, append-nil) (set_length k known) in
        by _ before (rw q (record { says = ap (λ (i : ℕ). was_read k start.exact 0 (at + i)) (sym n); leaves = refl }))

    pub set_message : (sop : SopKind) → start.kind ≡ Message sop → (a : Result FoundFrame ReadError) (after : List ℕ)
        → Tells at (first_of start.exact (with_set (sop_number sop) (body_at (drop 4 part)))) before a after → Reads line at before a after
    unfolding shape_behind
    set_message sop e a after u = by a after (rw (first_is, e, carrying (sop_number sop) (sop_below sop)) u)
