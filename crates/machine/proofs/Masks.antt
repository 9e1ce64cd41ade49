-- Bits of an octet under a mask.
-- Assumes nothing.
use mathlib.Core.Path.{◌≡◌, refl, sym, ap, ap₂, ◌∙◌}
use mathlib.Core.List.{List, [], ◌∷◌}
use Prim.Native.Nat.{ℕ, zero, suc, ◌+◌, ◌*◌, ◌/◌, ◌%◌, ◌≤◌, min, max}
use native.Mathlib.Nat.{div-add-mod'}
use native.Mathlib.Omega.{arith}
use lib.Arith.{bin_ind}
use lib.Bits.{bit_and, bit_or, and_step, or_step, and_comm, or_comm, and_self, or_zero_r, and_zero_l, and_zero_r, and_le_r}
use lib.ListN.{get_or, set}
use Rattle.machine.specs.Good.{Within, AllWithin}

-- ---- half of it, and its last bit

half_and : (a b : ℕ) → bit_and a b / 2 ≡ bit_and (a / 2) (b / 2)
half_and a b = omega (arith, and_step a b)

last_and : (a b : ℕ) → bit_and a b % 2 ≡ min (a % 2) (b % 2)
last_and a b = omega (arith, and_step a b)

half_or : (a b : ℕ) → bit_or a b / 2 ≡ bit_or (a / 2) (b / 2)
half_or a b = omega (arith, or_step a b)

last_or : (a b : ℕ) → bit_or a b % 2 ≡ max (a % 2) (b % 2)
last_or a b = omega (arith, or_step a b)

doubled : ℕ → ℕ → ℕ
doubled x y = x * 2 + y

pub and_assoc : (a b c : ℕ) → bit_and (bit_and a b) c ≡ bit_and a (bit_and b c)
unfolding doubled
and_assoc =
    bin_ind (λ (a : ℕ). (b c : ℕ) → bit_and (bit_and a b) c ≡ bit_and a (bit_and b c))
    (λ b c. refl)
    (λ a ih b c.
    and_step (bit_and a b) c
    ∙ ap₂ doubled
    (ap (λ (x : ℕ). bit_and x (c / 2)) (half_and a b) ∙ ih (b / 2) (c / 2) ∙ ap (bit_and (a / 2)) (sym (half_and b c)))
    (ap (λ (x : ℕ). min x (c % 2)) (last_and a b) ∙ least (a % 2) (b % 2) (c % 2) ∙ ap (min (a % 2)) (sym (last_and b c)))
    ∙ sym (and_step a (bit_and b c)))
  where
    least : (a b c : ℕ) → min (min a b) c ≡ min a (min b c)
    least a b c = omega arith

pub and_or : (a b c : ℕ) → bit_and (bit_or a b) c ≡ bit_or (bit_and a c) (bit_and b c)
unfolding doubled
and_or =
    bin_ind (λ (a : ℕ). (b c : ℕ) → bit_and (bit_or a b) c ≡ bit_or (bit_and a c) (bit_and b c))
    (λ b c. refl)
    (λ a ih b c.
    and_step (bit_or a b) c
    ∙ ap₂ doubled
    (ap (λ (x : ℕ). bit_and x (c / 2)) (half_or a b) ∙ ih (b / 2) (c / 2) ∙ sym (ap₂ bit_or (half_and a c) (half_and b c)))
    (ap (λ (x : ℕ). min x (c % 2)) (last_or a b) ∙ either (a % 2) (b % 2) (c % 2) ∙ sym (ap₂ max (last_and a c) (last_and b c)))
    ∙ sym (or_step (bit_and a c) (bit_and b c)))
  where
    either : (a b c : ℕ) → min (max a b) c ≡ max (min a c) (min b c)
    either a b c = omega arith

or_absorbs : (a m : ℕ) → bit_or (bit_and a m) m ≡ m
unfolding doubled
or_absorbs =
    bin_ind (λ (a : ℕ). (m : ℕ) → bit_or (bit_and a m) m ≡ m)
    (λ m. refl)
    (λ a ih m.
    or_step (bit_and a m) m
    ∙ ap₂ doubled (ap (λ (x : ℕ). bit_or x (m / 2)) (half_and a m) ∙ ih (m / 2)) (ap (λ (x : ℕ). max x (m % 2)) (last_and a m) ∙ largest (a % 2) (m % 2))
    ∙ div-add-mod' m 2)
  where
    largest : (a b : ℕ) → max (min a b) b ≡ b
    largest a b = omega arith

-- ---- bits that are set

-- all bits of m are 1 in x
abbrev pub Set : ℕ → ℕ → Type 0
Set m x = bit_and x m ≡ m

pub set_by : (x m : ℕ) → Set m (bit_or x m)
set_by x m = and_or x m m ∙ ap (bit_or (bit_and x m)) (and_self m) ∙ or_absorbs x m

pub stays_set : (m x y : ℕ) → Set m x → Set m (bit_or x y)
stays_set m x y h = and_or x y m ∙ ap (λ (z : ℕ). bit_or z (bit_and y m)) h ∙ or_comm m (bit_and y m) ∙ or_absorbs y m

-- bits that another mask sets are as they were
pub set_other : (k x m : ℕ) → bit_and m k ≡ 0 → bit_and (bit_or x m) k ≡ bit_and x k
set_other k x m e = and_or x m k ∙ ap (bit_or (bit_and x k)) e ∙ or_zero_r (bit_and x k)

-- ---- within a mask

pub within_and : (v m : ℕ) → Within m (bit_and v m)
within_and v m = and_assoc v m m ∙ ap (bit_and v) (and_self m)

pub within_less : (m c x : ℕ) → Within m x → Within m (bit_and x c)
within_less m c x h = and_assoc x c m ∙ ap (bit_and x) (and_comm c m) ∙ sym (and_assoc x m c) ∙ ap (λ (y : ℕ). bit_and y c) h

pub within_more : (m x y : ℕ) → Within m x → Within m y → Within m (bit_or x y)
within_more m x y h k = and_or x y m ∙ ap₂ bit_or h k

pub within_zero : (m : ℕ) → Within m 0
within_zero m = and_zero_l m

pub within_le : (m x : ℕ) → Within m x → x ≤ m
within_le m x h = omega (arith, and_le_r x m)

pub within_wider : (m n x : ℕ) → Within m x → bit_and m n ≡ m → Within n x
within_wider m n x h e = ap (λ (y : ℕ). bit_and y n) (sym h) ∙ and_assoc x m n ∙ ap (bit_and x) e ∙ h

-- a bit outside the mask is 0
pub outside : (m k x : ℕ) → Within m x → bit_and m k ≡ 0 → bit_and x k ≡ 0
outside m k x h e = ap (λ (y : ℕ). bit_and y k) (sym h) ∙ and_assoc x m k ∙ ap (bit_and x) e ∙ and_zero_r x

-- ---- cells

pub cells_set : (ms xs : List ℕ) (i v : ℕ) → AllWithin ms xs → AllWithin ms (set xs i (bit_and v (get_or ms i 0)))
cells_set [] [] i v h = h
cells_set [] (x ∷ xs) i v h = absurd h
cells_set (m ∷ ms) [] i v h = absurd h
cells_set (m ∷ ms) (x ∷ xs) zero v h = (within_and v m, h.1)
cells_set (m ∷ ms) (x ∷ xs) (suc i) v h = (h.0, cells_set ms xs i v h.1)

pub cells_at : (ms xs : List ℕ) (i : ℕ) → AllWithin ms xs → Within (get_or ms i 0) (get_or xs i 0)
cells_at [] [] i h = refl
cells_at [] (x ∷ xs) i h = absurd h
cells_at (m ∷ ms) [] i h = absurd h
cells_at (m ∷ ms) (x ∷ xs) zero h = h.0
cells_at (m ∷ ms) (x ∷ xs) (suc i) h = cells_at ms xs i h.1
