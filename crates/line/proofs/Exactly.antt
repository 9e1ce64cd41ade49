-- What was written is read back, and the reader's answer on every record: exactly when.
-- Assumes nothing.
use mathlib.Core.Path.{◌≡◌, refl, sym, ap, ◌∙◌, subst}
use mathlib.Core.Bool.{Bool, true, false, cond, true≢false}
use mathlib.Core.List.{List, [], ◌++◌, append_assoc, append-nil}
use mathlib.Core.Logic.{◌⊎◌, inl, inr}
use Prim.Native.Nat.{ℕ, suc, ◌+◌, ◌*◌, ◌<◌, ◌≤◌}
use native.Mathlib.Omega.{arith}
use native.Mathlib.Decide.{dec_le}
use borrow.Author.Tests.{lt-ltb, le-ltb}
use lib.ListN.{length, take, drop, length-append, length-drop, take-append-drop}
use lib.Seq.{take-take, take-length}
use Rattle.line.proofs.Looks.{empty, Begun, Part, Stands, Ends, Says}
use Rattle.line.proofs.Bodies.{Sized}
use Rattle.line.proofs.Starts.{set_length, set_there, exact_is, drop_set}
use Rattle.line.proofs.Agreeing.{taken_kind, taken_long, taken_set, short_set, untaken_set, SetMeans, set_means}
use Rattle.line.proofs.Shapes.{sized_of, length_drawn, drawn_exact, same_kind, shape_back, one_shape, shape_says}
use Rattle.line.proofs.Crcs.{length_crc, octets_crc, payload, length_payload, octets_payload, payload_back, crc_right_lem, crc_there}
use Rattle.line.specs.Kind.{kinds, sop_kinds, set_of, carries}
use Rattle.line.specs.Frame.{Frame, Whole, Shape, Shaped, drawn, sealed, symbols_of}
use Rattle.line.specs.Read.{Look, found, short, misfit, TakenSet, set_at, shape_behind, exact_frame, First, frame, wrong_crc, too_short, no_frame, checked, first_of, after_set, first}
use Rattle.line.specs.Crc.{crc_right}
use Rattle.line.specs.Place.{Begins, Cut, Longest, Intact, Spoilt}
use Rattle.line.specs.Taken.{Exactly, TakenAs, Untaken, straight, AsIfExact, marked}
use Rattle.line.specs.Theorems.{ReadsBack, ReadsAsExact, ExactStays, ExactFrameExactly, FrameExactly, WrongCrcExactly, TooShortExactly, Unframed, NoFrameExactly}

-- ---- frames and their shapes

pub sealed_shaped : (f : Frame) → Whole f → Shaped (sealed f)
unfolding sealed carries
sealed_shaped f (Whole.message h o lo hi) =
    let n = length_crc f.octets in
    rw (lt-ltb f.kind sop_kinds h) (Shaped.message h (octets_crc f.octets o) (omega arith) (omega arith))
sealed_shaped f (Whole.alone h k e) = rw (le-ltb f.kind sop_kinds h) (Shaped.alone h k refl)

-- the frame that a shape is of
unfoldable pub unsealed : Shape → Frame
unsealed s = record { kind = s.kind; octets = payload s.octets }

pub unsealed_sealed : (f : Frame) → Whole f → unsealed (sealed f) ≡ f
unfolding unsealed sealed carries payload
unsealed_sealed f (Whole.message h o lo hi) =
    rw (lt-ltb f.kind sop_kinds h) (λ i. record { kind = f.kind; octets = payload_back f.octets i })
unsealed_sealed f (Whole.alone h k e) = rw (le-ltb f.kind sop_kinds h) (λ i. record { kind = f.kind; octets = sym e i })

-- ---- 1. What was written is read back

checked_sealed : (f : Frame) → Whole f → checked true (sealed f) ≡ frame (exact_frame (sealed f))
unfolding checked sealed carries
checked_sealed f (Whole.message h o lo hi) = simp (lt-ltb f.kind sop_kinds h, crc_right_lem f.octets)
checked_sealed f (Whole.alone h k e) = simp (le-ltb f.kind sop_kinds h)

-- after a set that is taken: what is behind it
taken_first : (line : List ℕ) (k : ℕ) (exact : Bool) → TakenAs line k exact → first line ≡ first_of exact (shape_behind k (drop 4 line))
unfolding first after_set
taken_first line k exact t = ap (λ (r : Look TakenSet). after_set r line) (taken_set line k exact t)

first_shape : (s : Shape) (x : List ℕ) → Shaped s → first (drawn s ++ x) ≡ checked true s
unfolding first_of
first_shape s x shaped = taken_first (drawn s ++ x) s.kind true (drawn_exact s x shaped) ∙ ap (first_of true) (shape_back s x shaped)

pub reads_back : ReadsBack
unfolding symbols_of
reads_back f x w = first_shape (sealed f) x (sealed_shaped f w) ∙ checked_sealed f w

-- ---- what each answer means

Meaning : List ℕ → First → Type 0
Meaning line (frame r) = Intact line r.shape
Meaning line (wrong_crc p) = Spoilt line p
Meaning line (too_short p) = Cut line × (p ≡ length line)
Meaning line (no_frame p) = (p < length line) × Longest line p

-- a frame with this shape begins the record
intact : (line : List ℕ) (s : Shape) → Stands Shaped drawn line s → Whole (unsealed s) → s ≡ sealed (unsealed s) → Intact line s
unfolding symbols_of
intact line s st w e =
    record { frame = unsealed s; whole = w; seals = e; rest = st.rest; is = st.is ∙ ap (λ (t : Shape). drawn t ++ st.rest) e }

module _ (line : List ℕ) (s : Shape) (st : Stands Shaped drawn line s) where
  right_means : s.kind < sop_kinds → Sized s.octets → crc_right s.octets ≡ true → Intact line s
  unfolding sealed unsealed carries
  right_means h z e =
      let m = s.octets in
      let lo = z.many in
      let hi = z.few in
      let n = length_payload m in
      let there = crc_there m z.octets (omega arith) e in
      intact line s st
      (Whole.message h (octets_payload m z.octets) (omega arith) (omega arith))
      (rw (lt-ltb s.kind sop_kinds h) (λ i. record { kind = s.kind; octets = there i }))

  wrong_means : s.kind < sop_kinds → crc_right s.octets ≡ false → Spoilt line (4 + 2 * length s.octets)
  wrong_means h e =
      record {
        shape = s;
        shaped = st.right;
        sop = h;
        wrong = λ l q. true≢false (sym (ap crc_right q ∙ crc_right_lem l) ∙ e);
        rest = st.rest;
        is = st.is;
        before_end = sym (length_drawn s h);
      }

  message_means : (exact : Bool) → s.kind < sop_kinds → Sized s.octets → (b : Bool) → crc_right s.octets ≡ b
      → Meaning line (cond b (frame (record { shape = s; exact = exact })) (wrong_crc (4 + 2 * length s.octets)))
  unfolding Meaning
  message_means exact h z true e = right_means h z e
  message_means exact h z false e = wrong_means h e

  alone_means : sop_kinds ≤ s.kind → s.kind < kinds → s.octets ≡ [] → Intact line s
  unfolding sealed unsealed carries payload
  alone_means h k e =
      intact line s st
      (Whole.alone h k (ap payload e))
      (rw (le-ltb s.kind sop_kinds h) (λ i. record { kind = s.kind; octets = e i }))

  stands_means : (exact : Bool) → Shaped s → Meaning line (checked exact s)
  unfolding Meaning checked carries
  stands_means exact (Shaped.message h o lo hi) =
      rw (lt-ltb s.kind sop_kinds h) (message_means exact h (record { octets = o; many = lo; few = hi }) (crc_right s.octets) refl)
  stands_means exact (Shaped.alone h k e) = rw (le-ltb s.kind sop_kinds h) (alone_means h k e)

-- ---- beginnings of shapes

to_begins : {l : List ℕ} → Begun Shaped drawn l → Begins l
to_begins b = record { shape = b.thing; shaped = b.right; rest = b.rest; is = b.is }

-- a beginning of a beginning
earlier : (l : List ℕ) (p n : ℕ) → p ≤ n → Begins (take n l) → Begun Shaped drawn (take p l)
earlier l p n h b =
    let a = take n l in
    let front : take p l ++ drop p a ≡ a = ap (λ (x : List ℕ). x ++ drop p a) (sym (take-take p n l h)) ∙ take-append-drop p a in
    record {
      thing = b.shape;
      right = b.shaped;
      rest = drop p a ++ b.rest;
      is = sym (append_assoc (take p l) (drop p a) b.rest) ∙ ap (λ (x : List ℕ). x ++ b.rest) front ∙ b.is;
    }

ends_longest : (line : List ℕ) (p : ℕ) → Ends Shaped drawn line p → Longest line p
ends_longest line p e =
    let w = e.within in
    record {
      within = omega arith;
      begins = to_begins e.part.begun;
      most = λ n h b.
          elim (dec_le n p) [
            | yes q ↦ q
            | no q ↦ absurd (e.no_more (earlier line (suc p) n (omega arith) b))
          ];
    }

part_cut : {l : List ℕ} → Part Shaped drawn l → Cut l
unfolding to_begins
part_cut p = record { begins = to_begins p.begun; more = λ e. omega (arith, ap length e, p.more) }

intact_stands : {line : List ℕ} {s : Shape} (h : Intact line s) → Stands Shaped drawn line (sealed h.frame)
unfolding symbols_of
intact_stands h = record { right = sealed_shaped h.frame h.whole; rest = h.rest; is = h.is }

-- a record that begins with a whole shape is no part of one
whole_uncut : {line : List ℕ} {s : Shape} → Stands Shaped drawn line s → Cut line → ⊥
whole_uncut {line} {s} st c =
    let b = c.begins in
    let e : drawn s ++ (st.rest ++ b.rest) ≡ drawn b.shape ++ [] =
    sym (append_assoc (drawn s) st.rest b.rest)
    ∙ ap (λ (x : List ℕ). x ++ b.rest) (sym st.is)
    ∙ b.is
    ∙ sym (append-nil (drawn b.shape)) in
    let none = one_shape s b.shape (st.rest ++ b.rest) [] st.right b.shaped e in
    c.more (empty _ (omega (arith, simp length-append at (ap length none.1))))

-- ---- the answer on a record with an exact set

means : (line : List ℕ) (k : ℕ) → Exactly line k → Meaning line (first line)
unfolding Meaning first_of
means line k e =
    subst (Meaning line) (sym (taken_first line k true e))
    (subst (λ (l : List ℕ). Meaning l (first_of true (shape_behind k (drop 4 line)))) (sym (exact_is line k e))
    (go (shape_behind k (drop 4 line)) (shape_says k (drop 4 line) e.kind)))
  where
    go : (r : Look Shape) → Says Shaped drawn (set_of k ++ drop 4 line) r → Meaning (set_of k ++ drop 4 line) (first_of true r)
    go (found s) st = stands_means (set_of k ++ drop 4 line) s st true st.right
    go (short p) t = (part_cut t.0, t.1)
    go (misfit p) t = (t.within, ends_longest (set_of k ++ drop 4 line) p t)

module _ (line : List ℕ) where
  intact_answer : (s : Shape) → Intact line s → first line ≡ frame (exact_frame s)
  intact_answer s h = ap first h.is ∙ reads_back h.frame h.rest h.whole ∙ ap (λ (t : Shape). frame (exact_frame t)) (sym h.seals)

  spoilt_answer : (p : ℕ) → Spoilt line p → first line ≡ wrong_crc p
  unfolding checked carries
  spoilt_answer p t =
      let s = t.shape in
      let e = t.before_end in
      let n = length_drawn s t.sop in
      ap first t.is
      ∙ first_shape s t.rest t.shaped
      ∙ simp (lt-ltb s.kind sop_kinds t.sop, wrong (crc_right s.octets) refl) (ap wrong_crc (omega arith))
    where
      wrong : (b : Bool) → crc_right t.shape.octets ≡ b → crc_right t.shape.octets ≡ false
      wrong true e =
          let z = sized_of t.shaped t.sop in
          let n = z.many in
          absurd (t.wrong _ (crc_there t.shape.octets z.octets (omega arith) e))
      wrong false e = e

  module _ (k : ℕ) (exact : Exactly line k) where
    answer_means : (f : First) → first line ≡ f → Meaning line f
    answer_means f e = subst (Meaning line) e (means line k exact)

    cut_answer : Cut line → first line ≡ too_short (length line)
    unfolding Meaning
    cut_answer c = go (first line) (means line k exact)
      where
        go : (f : First) → Meaning line f → f ≡ too_short (length line)
        go (frame r) m = absurd (whole_uncut (intact_stands m) c)
        go (wrong_crc q) m = absurd (whole_uncut (record { right = m.shaped; rest = m.rest; is = m.is }) c)
        go (too_short q) m = ap too_short m.1
        go (no_frame q) m =
            let begins : Begins (take (length line) line) = rw take-length c.begins in
            let h = m.0 in
            absurd (omega (arith, m.1.most (length line) (omega arith) begins))

    nothing_answer : (p : ℕ) → Unframed p line → first line ≡ no_frame p
    unfolding Meaning
    nothing_answer p b = go (first line) (means line k exact)
      where
        go : (f : First) → Meaning line f → f ≡ no_frame p
        go (frame r) m = absurd (b.unintact r.shape m)
        go (wrong_crc q) m = absurd (b.unspoilt q m)
        go (too_short q) m = absurd (b.uncut m.0)
        go (no_frame q) m =
            let r = m.1 in
            let l = b.longest in
            let e : q ≡ p = omega (arith, l.most q r.within r.begins, r.most p l.within l.begins) in
            ap no_frame e

    -- where the answer is no_frame, what the other answers mean is not so
    nothing_means : (p : ℕ) → first line ≡ no_frame p → Unframed p line
    unfolding Meaning
    nothing_means p e =
        record {
          unintact = λ s h. let f = intact_answer s h in let z : ◌≡◌ {A = ℕ} 0 1 = cc in omega arith;
          unspoilt = λ q t. let f = spoilt_answer q t in let z : ◌≡◌ {A = ℕ} 0 1 = cc in omega arith;
          uncut = λ c. let f = cut_answer c in let z : ◌≡◌ {A = ℕ} 0 1 = cc in omega arith;
          longest = (answer_means (no_frame p) e).1;
        }

-- ---- a set that is taken, as if it had been exact

pub exact_stays : ExactStays
unfolding straight
exact_stays line k e = sym (exact_is line k e)

marked_first : (exact : Bool) (r : Look Shape) → marked exact (first_of true r) ≡ first_of exact r
unfolding marked first_of checked
marked_first exact (found s) = go (carries s.kind) (crc_right s.octets)
  where
    go : (a b : Bool)
        → marked exact (cond a (cond b (frame (exact_frame s)) (wrong_crc (4 + 2 * length s.octets))) (frame (exact_frame s)))
        ≡ cond a (cond b (frame (record { shape = s; exact = exact })) (wrong_crc (4 + 2 * length s.octets))) (frame (record { shape = s; exact = exact }))
    go true true = refl
    go true false = refl
    go false b = refl
marked_first exact (short p) = refl
marked_first exact (misfit p) = refl

module _ (line : List ℕ) (k : ℕ) (exact : Bool) (t : TakenAs line k exact) where
  kind_of_lem : k < kinds
  kind_of_lem = taken_kind line k exact t

  straight_exact : Exactly (straight k line) k
  unfolding straight
  straight_exact = set_there k (drop 4 line) kind_of_lem

  pub straight_long : length (straight k line) ≡ length line
  unfolding straight
  straight_long =
      omega (arith, length-append (set_of k) (drop 4 line), set_length k kind_of_lem, length-drop 4 line, taken_long line k exact t)

  as_exact : first line ≡ marked exact (first (straight k line))
  unfolding straight
  as_exact =
      taken_first line k exact t
      ∙ sym (marked_first exact (shape_behind k (drop 4 line)))
      ∙ ap (λ (l : List ℕ). marked exact (first_of true (shape_behind k l))) (sym (drop_set k (drop 4 line) kind_of_lem))
      ∙ ap (marked exact) (sym (taken_first (straight k line) k true straight_exact))

pub reads_as_exact : ReadsAsExact
reads_as_exact = as_exact

-- ---- 2. The reader's answer, exactly when

-- a set is taken of the record, and what its answer is
record Taken (line : List ℕ) : Type 0 where
  kind : ℕ
  exact : Bool
  taken : TakenAs line kind exact

-- by the set
data BySet (line : List ℕ) (f : First) : Type 0 where
  few : length line < 4 → f ≡ too_short (length line) → BySet line f
  unset : Untaken line → f ≡ no_frame 0 → BySet line f
  set : (t : Taken line) → f ≡ marked t.exact (first (straight t.kind line)) → BySet line f

by_set : (line : List ℕ) → BySet line (first line)
unfolding first after_set
by_set line = go (set_at line) refl (set_means line)
  where
    go : (r : Look TakenSet) → set_at line ≡ r → SetMeans line r → BySet line (after_set (set_at line) line)
    go (found t) e m = set (record { kind = t.kind; exact = t.exact; taken = m }) (as_exact line t.kind t.exact m)
    go (short p) e m = few m.0 (rw e (ap too_short m.1))
    go (misfit p) e m = unset m.0 (rw e (ap no_frame m.1))

-- what an answer with its mark was before it was marked
marked_wrong : (exact : Bool) (f : First) (p : ℕ) → marked exact f ≡ wrong_crc p → f ≡ wrong_crc p
unfolding marked
marked_wrong exact (frame r) p e = cc
marked_wrong exact (wrong_crc q) p e = e
marked_wrong exact (too_short q) p e = cc
marked_wrong exact (no_frame q) p e = cc

marked_short : (exact : Bool) (f : First) (p : ℕ) → marked exact f ≡ too_short p → f ≡ too_short p
unfolding marked
marked_short exact (frame r) p e = cc
marked_short exact (wrong_crc q) p e = cc
marked_short exact (too_short q) p e = e
marked_short exact (no_frame q) p e = cc

marked_none : (exact : Bool) (f : First) (p : ℕ) → marked exact f ≡ no_frame p → f ≡ no_frame p
unfolding marked
marked_none exact (frame r) p e = cc
marked_none exact (wrong_crc q) p e = cc
marked_none exact (too_short q) p e = cc
marked_none exact (no_frame q) p e = e

-- a record with k's set and a frame of this shape
abbrev Shows : List ℕ → ℕ → Bool → First → Type 0
Shows l k exact (frame r) = Intact l r.shape × (k ≡ r.shape.kind) × (exact ≡ r.exact)
Shows l k exact (wrong_crc p) = Unit {0}
Shows l k exact (too_short p) = Unit {0}
Shows l k exact (no_frame p) = Unit {0}

intact_kind : (k : ℕ) (x : List ℕ) (s : Shape) → k < kinds → Intact (set_of k ++ x) s → k ≡ s.kind
unfolding symbols_of
intact_kind k x s h i =
    same_kind k (sealed i.frame) x i.rest h (sealed_shaped i.frame i.whole) i.is ∙ ap (λ (t : Shape). t.kind) (sym i.seals)

module _ (line : List ℕ) (t : Taken line) where
  abbrev right : List ℕ
  right = straight t.kind line

  set_there_right : Exactly right t.kind
  set_there_right = straight_exact line t.kind t.exact t.taken

  shows : (f : First) → first right ≡ f → Shows right t.kind t.exact (marked t.exact f)
  unfolding marked Meaning straight
  shows (frame r) e =
      let i = answer_means right t.kind set_there_right (frame r) e in
      (i, intact_kind t.kind (drop 4 line) r.shape set_there_right.kind i, refl)
  shows (wrong_crc p) e = tt
  shows (too_short p) e = tt
  shows (no_frame p) e = tt

  as_if : (P : List ℕ → Type 0) → P right → AsIfExact P line
  as_if P h = record { kind = t.kind; exact = t.exact; taken = t.taken; holds = h }

module _ (line : List ℕ) where
  frame_means : (s : Shape) (exact : Bool) → first line ≡ frame (record { shape = s; exact = exact })
      → TakenAs line s.kind exact × Intact (straight s.kind line) s
  frame_means s exact e = go (by_set line)
    where
      go : BySet line (first line) → TakenAs line s.kind exact × Intact (straight s.kind line) s
      go (few h q) = let z : ◌≡◌ {A = ℕ} 0 1 = cc in absurd (omega arith)
      go (unset u q) = let z : ◌≡◌ {A = ℕ} 0 1 = cc in absurd (omega arith)
      go (set t q) =
          let w = subst (Shows (straight t.kind line) t.kind t.exact) (sym q ∙ e) (shows line t (first (straight t.kind line)) refl) in (
            subst (λ (k : ℕ). TakenAs line k exact) w.1 (subst (TakenAs line t.kind) w.2 t.taken),
            subst (λ (k : ℕ). Intact (straight k line) s) w.1 w.0,
          )

  frame_answer : (s : Shape) (exact : Bool) → TakenAs line s.kind exact → Intact (straight s.kind line) s
      → first line ≡ frame (record { shape = s; exact = exact })
  unfolding marked
  frame_answer s exact t i = as_exact line s.kind exact t ∙ ap (marked exact) (intact_answer (straight s.kind line) s i)

  wrong_means_taken : (p : ℕ) → first line ≡ wrong_crc p → AsIfExact (λ l. Spoilt l p) line
  unfolding Meaning
  wrong_means_taken p e = go (by_set line)
    where
      go : BySet line (first line) → AsIfExact (λ l. Spoilt l p) line
      go (few h q) = let z : ◌≡◌ {A = ℕ} 0 1 = cc in absurd (omega arith)
      go (unset u q) = let z : ◌≡◌ {A = ℕ} 0 1 = cc in absurd (omega arith)
      go (set t q) = as_if line t (λ l. Spoilt l p) (answer_means (straight t.kind line) t.kind (set_there_right line t) (wrong_crc p) (marked_wrong t.exact _ p (sym q ∙ e)))

  wrong_answer : (p : ℕ) → AsIfExact (λ l. Spoilt l p) line → first line ≡ wrong_crc p
  unfolding marked
  wrong_answer p a = as_exact line a.kind a.exact a.taken ∙ ap (marked a.exact) (spoilt_answer (straight a.kind line) p a.holds)

  short_means : (p : ℕ) → first line ≡ too_short p → ((length line < 4) ⊎ AsIfExact Cut line) × (p ≡ length line)
  unfolding Meaning
  short_means p e = go (by_set line)
    where
      go : BySet line (first line) → ((length line < 4) ⊎ AsIfExact Cut line) × (p ≡ length line)
      go (few h q) = let same : p ≡ length line = cc in (inl h, same)
      go (unset u q) = let z : ◌≡◌ {A = ℕ} 0 1 = cc in absurd (omega arith)
      go (set t q) =
          let m = answer_means (straight t.kind line) t.kind (set_there_right line t) (too_short p) (marked_short t.exact _ p (sym q ∙ e)) in
          (inr (as_if line t Cut m.0), m.1 ∙ straight_long line t.kind t.exact t.taken)

  short_answer : (p : ℕ) → (length line < 4) ⊎ AsIfExact Cut line → p ≡ length line → first line ≡ too_short p
  unfolding first after_set marked
  short_answer p (inl h) e = ap (λ (r : Look TakenSet). after_set r line) (short_set line h) ∙ ap too_short (sym e)
  short_answer p (inr a) e =
      as_exact line a.kind a.exact a.taken
      ∙ ap (marked a.exact) (cut_answer (straight a.kind line) a.kind (straight_exact line a.kind a.exact a.taken) a.holds)
      ∙ ap too_short (straight_long line a.kind a.exact a.taken ∙ sym e)

  none_means : (p : ℕ) → first line ≡ no_frame p → (Untaken line × (p ≡ 0)) ⊎ AsIfExact (Unframed p) line
  none_means p e = go (by_set line)
    where
      go : BySet line (first line) → (Untaken line × (p ≡ 0)) ⊎ AsIfExact (Unframed p) line
      go (few h q) = let z : ◌≡◌ {A = ℕ} 0 1 = cc in absurd (omega arith)
      go (unset u q) = let same : p ≡ 0 = cc in inl (u, same)
      go (set t q) = inr (as_if line t (Unframed p) (nothing_means (straight t.kind line) t.kind (set_there_right line t) p (marked_none t.exact _ p (sym q ∙ e))))

  none_answer : (p : ℕ) → (Untaken line × (p ≡ 0)) ⊎ AsIfExact (Unframed p) line → first line ≡ no_frame p
  unfolding first after_set marked
  none_answer p (inl u) = ap (λ (r : Look TakenSet). after_set r line) (untaken_set line u.0) ∙ ap no_frame (sym u.1)
  none_answer p (inr a) =
      as_exact line a.kind a.exact a.taken
      ∙ ap (marked a.exact) (nothing_answer (straight a.kind line) a.kind (straight_exact line a.kind a.exact a.taken) p a.holds)

-- the place of no frame is one of the record's
pub none_place : (line : List ℕ) (p : ℕ) → first line ≡ no_frame p → p < length line
unfolding Meaning
none_place line p e = go (by_set line)
  where
    go : BySet line (first line) → p < length line
    go (few h q) = let z : ◌≡◌ {A = ℕ} 0 1 = cc in absurd (omega arith)
    go (unset u q) = let same : p ≡ 0 = cc in omega (arith, u.four)
    go (set t q) =
        let m = answer_means (straight t.kind line) t.kind (set_there_right line t) (no_frame p) (marked_none t.exact _ p (sym q ∙ e)) in
        omega (arith, m.0, straight_long line t.kind t.exact t.taken)

pub frame_exactly : FrameExactly
frame_exactly line s exact = (frame_means line s exact, λ h. frame_answer line s exact h.0 h.1)

pub exact_frame_exactly : ExactFrameExactly
exact_frame_exactly line s = (
  λ e. let m = frame_means line s true e in subst (λ (l : List ℕ). Intact l s) (exact_stays line s.kind m.0) m.1,
  intact_answer line s,
)

pub wrong_crc_exactly : WrongCrcExactly
wrong_crc_exactly line p = (wrong_means_taken line p, wrong_answer line p)

pub too_short_exactly : TooShortExactly
too_short_exactly line p = (short_means line p, λ h. short_answer line p h.0 h.1)

pub no_frame_exactly : NoFrameExactly
no_frame_exactly line p = (none_means line p, none_answer line p)
