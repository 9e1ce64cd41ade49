-- Headers as the code builds and reads them: shifted fields that do not overlap are a sum, and a mask is a remainder.
-- Assumes nothing.
use mathlib.Core.Path.{◌≡◌, sym, ap, ◌∙◌}
use mathlib.Core.Bool.{false, and-true}
use mathlib.Core.List.{List}
use Prim.Native.Nat.{ℕ, ◌+◌, ◌*◌, ◌/◌, ◌%◌, ◌<◌}
use native.Mathlib.Nat.{mod-eq_of_lt, div-div-eq-div-mul}
use native.Mathlib.Omega.{arith}
use borrow.Author.Tests.{eq-eqb, ne_eqb}
use lib.Bits.{bit_and, bit_or, and_mask, or_shifted_r}
use lib.Dec.{T, eqb, eqb→eq}
use lib.ListN.{length}
use Rattle.line.proofs.Table.{all, at}
use Rattle.machine.specs.Headers.{header, heard_header, is_control}
use Rattle.fusb302.specs.declared.header.ControlMessage.{ControlMessage}
use Rattle.fusb302.specs.declared.header.ControlMessage.TheVariants.{GoodCrc, SoftReset}
use Rattle.fusb302.specs.Messages.{type_number}

-- ---- built

-- the code's fields: data role d and power role p; revision r, MessageID and type
abbrev roles : ℕ → ℕ → ℕ
roles d p = bit_or (bit_and d 1 * 32 % 65536) (bit_and p 1 * 256 % 65536)

abbrev common : ℕ → ℕ → ℕ → ℕ
common r id code = bit_or (bit_or (bit_and r 3 * 64 % 65536) (id * 512 % 65536)) code

abbrev sum : ℕ → ℕ → ℕ → ℕ → ℕ → ℕ
sum d p r id code = code + (32 * (d % 2) + (64 * (r % 4) + (256 * (p % 2) + 512 * id)))

-- two numbers agree at each high nibble x of Switches1, MessageID and type
agree : (f g : ℕ → ℕ → ℕ → ℕ) → T (all (λ x. all (λ i. all (λ t. eqb (f x i t) (g x i t)) 16) 8) 16)
    → (x i t : ℕ) → x < 16 → i < 8 → t < 16 → f x i t ≡ g x i t
agree f g passed x i t h k l =
    eqb→eq (f x i t) (g x i t)
    (at (λ t. eqb (f x i t) (g x i t)) 16
    (at (λ i. all (λ t. eqb (f x i t) (g x i t)) 16) 8
    (at (λ x. all (λ i. all (λ t. eqb (f x i t) (g x i t)) 16) 8) 16 passed x h)
    i k)
    t l)

-- a type has four bits
pub four_bits : (message : ControlMessage) → type_number message < 16
four_bits GoodCrc = omega arith
four_bits SoftReset = omega arith

module _ (code kind sw id : ℕ) (h : sw < 256) (k : id < 8) (l : code < 16) where
  high : sw / 16 < 16
  high = omega arith

  pub on_sop : kind ≡ 0 → bit_or (roles (sw / 16) (sw / 128)) (common (sw / 32) id code) ≡ header code kind sw id
  unfolding header
  on_sop e =
      rw (e, ← div-div-eq-div-mul sw 16 2, ← div-div-eq-div-mul sw 16 8)
      (agree (λ x i t. bit_or (roles x (x / 8)) (common (x / 2) i t)) (λ x i t. sum x (x / 8) (x / 2) i t) tt (sw / 16) id code high k l)

  pub elsewhere : (kind ≡ 0 → ⊥) → common (sw / 32) id code ≡ header code kind sw id
  unfolding header
  elsewhere n =
      rw (ne_eqb kind 0 n, ← div-div-eq-div-mul sw 16 2)
      (agree (λ x i t. common (x / 2) i t) (λ x i t. sum 0 0 (x / 2) i t) tt (sw / 16) id code high k l)

-- ---- heard

-- two octets, low octet first
pub two : (lo hi : ℕ) → lo < 256 → hi < 256 → bit_or lo (hi * 256 % 65536) ≡ lo + 256 * hi
two lo hi h k = rw (mod-eq_of_lt {n = hi * 256} {m = 65536} (omega arith)) (or_shifted_r hi 8 lo h ∙ omega arith)

module _ (h code : ℕ) (m : List ℕ) (e : h ≡ heard_header m) where
  pub tested : length m ≡ 6 → bit_and h 15 ≡ code → eqb (bit_and (h / 4096) 7) 0 ≡ is_control code m
  unfolding is_control
  tested k l =
      let t : heard_header m % 16 ≡ code = ap (λ (x : ℕ). x % 16) (sym e) ∙ sym (and_mask h 4) ∙ l in
      rw (and_mask (h / 4096) 3, e) (simp (eq-eqb _ _ t, eq-eqb _ _ k, and-true))

  pub other : (bit_and h 15 ≡ code → ⊥) → false ≡ is_control code m
  unfolding is_control
  other l = simp (ne_eqb (heard_header m % 16) code (λ t. l (and_mask h 4 ∙ ap (λ (x : ℕ). x % 16) e ∙ t)))
