-- The writer's answer: a frame's symbols in the order in which they are put, and the answer of each way out.
-- Assumes nothing.
use mathlib.Core.Path.{◌≡◌, refl, sym, ap, ◌∙◌}
use mathlib.Core.Bool.{Bool, true, false, cond}
use mathlib.Core.List.{List, [], ◌∷◌, ◌++◌, append-nil, append_assoc}
use mathlib.Core.Logic.{◌⊎◌, inl, inr}
use mathlib.Core.Option.{Option, none, some}
use Prim.Native.Nat.{ℕ, ◌+◌, ◌*◌, ◌/◌, ◌%◌, ◌<◌, ◌≤◌}
use native.Mathlib.Omega.{arith}
use borrow.Author.Tests.{lt-ltb, le-ltb, eq-eqb, ne_eqb}
use lib.ListN.{length, set, length-append}
use lib.Seq.{sets, length-sets}
use Rattle.std.specs.Prelude.{Result, Ok, Err}
use Rattle.std.specs.Int.{w32, to_le_bytes}
use Rattle.line.specs.declared.kind.SopKind.{SopKind}
use Rattle.line.specs.declared.kind.Kind.{Kind}
use Rattle.line.specs.declared.kind.Kind.TheVariants.{Message, HardReset}
use Rattle.line.specs.declared.write.WriteError.{WriteError}
use Rattle.line.specs.declared.write.WriteError.TheVariants.{SmallBuffer, UnknownKind, WrongLength}
use Rattle.line.specs.Symbol.{symbol_of, encoded, eop}
use Rattle.line.specs.Kind.{kinds, set_of, sop_kinds, carries}
use Rattle.line.specs.Numbered.{sop_number, kind_number}
use Rattle.line.specs.Crc.{crc_of, four_octets, with_crc}
use Rattle.line.specs.Frame.{Frame, message, alone, drawn, sealed, symbols_of}
use Rattle.line.specs.Refusal.{first_no}
use Rattle.line.specs.Write.{frame_room, wrong_length, written, writer_rows, sent, wrote, lent, Put, Writes}
use Rattle.line.specs.Theorems.{FrameLengths}
use Rattle.line.proofs.Numbers.{sop_below}
use Rattle.line.proofs.Stores.{sets_append, sets_front, lent_from, put_from, sets_behind}
use Rattle.line.proofs.Nibbles.{length_encoded}
use Rattle.line.proofs.Starts.{set_length}

-- ---- a frame's symbols

pub carrying : (k : ℕ) → k < sop_kinds → carries k ≡ true
unfolding carries
carrying k h = lt-ltb k sop_kinds h

pub bare : (k : ℕ) → sop_kinds ≤ k → carries k ≡ false
unfolding carries
bare k h = le-ltb k sop_kinds h

encoded_append : (a b : List ℕ) → encoded (a ++ b) ≡ encoded a ++ encoded b
unfolding encoded
encoded_append [] b = refl
encoded_append (x ∷ xs) b = ap (λ (l : List ℕ). symbol_of (x % 16) ∷ symbol_of (x / 16) ∷ l) (encoded_append xs b)

module _ (f : Frame) where
  message_symbols : f.kind < sop_kinds
      → symbols_of f ≡ set_of f.kind ++ (encoded f.octets ++ (encoded (four_octets (crc_of f.octets)) ++ (eop ∷ [])))
  unfolding symbols_of drawn sealed with_crc
  message_symbols h =
      ap (λ (b : Bool). set_of f.kind ++ cond b (encoded (cond b (with_crc f.octets) []) ++ (eop ∷ [])) []) (carrying f.kind h)
      ∙ simp (encoded_append, append_assoc)

  alone_symbols : sop_kinds ≤ f.kind → symbols_of f ≡ set_of f.kind
  unfolding symbols_of drawn sealed
  alone_symbols h =
      ap (λ (b : Bool). set_of f.kind ++ cond b (encoded (cond b (with_crc f.octets) []) ++ (eop ∷ [])) []) (bare f.kind h)
      ∙ append-nil (set_of f.kind)

  length_message : f.kind < sop_kinds → length (symbols_of f) ≡ 13 + 2 * length f.octets
  unfolding four_octets
  length_message h =
      rw (message_symbols h) (simp (length-append, length_encoded) (let z = set_length f.kind (omega arith) in omega arith))

  length_alone : sop_kinds ≤ f.kind → f.kind < kinds → length (symbols_of f) ≡ 4
  length_alone h g = ap length (alone_symbols h) ∙ set_length f.kind g

pub frame_lengths : FrameLengths
frame_lengths f (message h o lo hi) = let n = length_message f h in inr (omega arith, omega arith)
frame_lengths f (alone h k e) = inl (length_alone f h k)

-- the octets of a CRC as they are sent
le_octets : (n : ℕ) → to_le_bytes w32 n ≡ four_octets n
unfolding four_octets
le_octets n = refl

-- the runs of stores that put a message
pub message_put : (f : Frame) (before s₁ s₂ s₃ tail : List ℕ) (c : ℕ) → f.kind < sop_kinds
    → length f.octets ≤ 30 → frame_room ≤ length before
    → s₁ ≡ sets before 0 (set_of f.kind) → s₂ ≡ sets (lent_from 4 s₁) 0 (encoded f.octets)
    → c ≡ crc_of f.octets → tail ≡ to_le_bytes w32 c
    → s₃ ≡ sets (lent_from (4 + 2 * length f.octets) (put_from 4 s₁ s₂)) 0 (encoded tail)
    → Put f before (4 + 2 * length f.octets + 8 + 1) (set (put_from (4 + 2 * length f.octets) (put_from 4 s₁ s₂) s₃) (4 + 2 * length f.octets + 8) eop)
unfolding four_octets
message_put f before s₁ s₂ s₃ tail c h few room e₁ e₂ ec et e₃ =
    let k = f.kind in
    let l = f.octets in
    let at = 4 + 2 * length l in
    let u : tail ≡ four_octets (crc_of l) = et ∙ le_octets c ∙ ap four_octets ec in
    let t : length tail ≡ 4 = ap length u in
    let long : length s₁ ≡ length before = ap length e₁ ∙ length-sets before 0 (set_of k) in
    let p₂ : put_from 4 s₁ s₂ ≡ sets s₁ 4 (encoded l) = sets_behind s₁ (encoded l) s₂ 4 (let m = length_encoded l in omega arith) e₂ in
    let long₂ : length (put_from 4 s₁ s₂) ≡ length s₁ = ap length p₂ ∙ length-sets s₁ 4 (encoded l) in
    let p₃ : put_from at (put_from 4 s₁ s₂) s₃ ≡ sets (put_from 4 s₁ s₂) at (encoded tail) =
    sets_behind (put_from 4 s₁ s₂) (encoded tail) s₃ at (let m = length_encoded tail in omega arith) e₃ in
    let last = encoded tail ++ (eop ∷ []) in
    record {
      long = let n = length_message f h in omega arith;
      puts =
          ap (λ (s : List ℕ). sets s (at + 8) (eop ∷ [])) p₃
          ∙ sets_append (put_from 4 s₁ s₂) at (encoded tail) (eop ∷ []) (at + 8) (let m = length_encoded tail in omega arith)
          ∙ ap (λ (s : List ℕ). sets s at last) p₂
          ∙ sets_append s₁ 4 (encoded l) last at (let m = length_encoded l in omega arith)
          ∙ ap (λ (s : List ℕ). sets s 4 (encoded l ++ last)) e₁
          ∙ sets_append before 0 (set_of k) (encoded l ++ last) 4 (let m = set_length k (omega arith) in omega arith)
          ∙ ap (λ (s : List ℕ). sets before 0 (set_of k ++ (encoded l ++ (encoded s ++ (eop ∷ []))))) u
          ∙ ap (sets before 0) (sym (message_symbols f h));
    }

-- ---- the length of a message

module _ (k n : ℕ) where
  none_alone : sop_kinds ≤ k → n ≡ 0 → wrong_length k n ≡ false
  unfolding wrong_length
  none_alone h e = simp (bare k h, eq-eqb n 0 e)

  pub some_alone : sop_kinds ≤ k → (n ≡ 0 → ⊥) → wrong_length k n ≡ true
  unfolding wrong_length
  some_alone h e = simp (bare k h, ne_eqb n 0 e)

  pub wrong_many : k < sop_kinds → (n < 2) ⊎ ((2 ≤ n) × (30 < n)) → wrong_length k n ≡ true
  unfolding wrong_length
  wrong_many h (inl e) = simp (carrying k h, lt-ltb n 2 e)
  wrong_many h (inr e) = simp (carrying k h, le-ltb n 2 e.0, lt-ltb 30 n e.1)

  right_many : k < sop_kinds → 2 ≤ n → n ≤ 30 → wrong_length k n ≡ false
  unfolding wrong_length
  right_many h e g = simp (carrying k h, le-ltb n 2 e, le-ltb 30 n g)

-- ---- the kind of a number

module _ (k : Kind) (n : ℕ) (number : kind_number k ≡ n) where
  pub sop_is : (s : SopKind) → k ≡ Message s → sop_number s ≡ n
  sop_is s e = ap kind_number (sym e) ∙ number

  pub carries_message : (s : SopKind) → k ≡ Message s → n < sop_kinds
  carries_message s e = let q = sop_is s e in let b = sop_below s in omega arith

  pub is_reset : k ≡ HardReset → (sop_kinds ≤ n) × (n < kinds)
  is_reset e = let q : 5 ≡ n = ap kind_number (sym e) ∙ number in (omega arith, omega arith)

-- ---- the ways out

module _ (f : Frame) (before : List ℕ) where
  by : (o : Option ℕ) (r : Result ℕ WriteError) (after : List ℕ) → first_no (writer_rows f (length before)) ≡ o
      → written r ≡ wrote o f → after ≡ lent o f before → Writes f before r after
  by o r after e s t = record { says = rw e s; leaves = rw e t }

  pub small : length before < frame_room → Writes f before (Err SmallBuffer) before
  unfolding first_no wrote lent
  small h = by (some 12) (Err SmallBuffer) before (simp (lt-ltb (length before) frame_room h)) refl refl

  module _ (room : frame_room ≤ length before) where
    pub unknown : kinds ≤ f.kind → Writes f before (Err UnknownKind) before
    unfolding first_no wrote lent
    unknown h = by (some 11) (Err UnknownKind) before (simp (le-ltb (length before) frame_room room, le-ltb f.kind kinds h)) refl refl

    module _ (known : f.kind < kinds) where
      pub wrong : wrong_length f.kind (length f.octets) ≡ true → Writes f before (Err WrongLength) before
      unfolding first_no wrote lent
      wrong e = by (some 9) (Err WrongLength) before (simp (le-ltb (length before) frame_room room, lt-ltb f.kind kinds known, e)) refl refl

      taken : wrong_length f.kind (length f.octets) ≡ false → length (symbols_of f) ≤ frame_room
          → (n : ℕ) (after : List ℕ) → Put f before n after → Writes f before (Ok n) after
      unfolding first_no wrote lent
      taken e fits n after p =
          by none (Ok n) after (simp (le-ltb (length before) frame_room room, lt-ltb f.kind kinds known, e)) (ap sent p.long)
          (p.puts ∙ sets_front (symbols_of f) before (omega arith))

      pub message_sent : f.kind < sop_kinds → 2 ≤ length f.octets → length f.octets ≤ 30
          → (n : ℕ) (after : List ℕ) → Put f before n after → Writes f before (Ok n) after
      message_sent h lo hi = taken (right_many f.kind (length f.octets) h lo hi) (let n = length_message f h in omega arith)

      pub alone_sent : sop_kinds ≤ f.kind → length f.octets ≡ 0
          → (after : List ℕ) → after ≡ sets before 0 (set_of f.kind) → Writes f before (Ok 4) after
      alone_sent h e after q =
          let n = length_alone f h known in
          taken (none_alone f.kind (length f.octets) h e) (omega arith) 4 after
          (record { long = sym n; puts = q ∙ ap (sets before 0) (sym (alone_symbols f h)) })
