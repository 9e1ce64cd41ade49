-- No frame begins another, and a record of whole frames divides in one way alone.
-- Assumes nothing.
use mathlib.Core.Path.{◌≡◌, refl, sym, ap, ap₂, ◌∙◌}
use mathlib.Core.List.{List, [], ◌∷◌, ◌++◌, append-nil}
use Prim.Native.Nat.{ℕ}
use native.Mathlib.Omega.{arith}
use lib.ListN.{length, length-append}
use Rattle.line.proofs.Shapes.{drawn_some, one_shape}
use Rattle.line.proofs.Exactly.{sealed_shaped, unsealed, unsealed_sealed}
use Rattle.line.specs.Frame.{Frame, Whole, sealed, symbols_of, joined}
use Rattle.line.specs.Theorems.{NoPrefix, UniqueDivision}

-- ---- 3. No frame is a proper beginning of another

one_frame : (f g : Frame) (x y : List ℕ) → Whole f → Whole g → symbols_of f ++ x ≡ symbols_of g ++ y → (f ≡ g) × (x ≡ y)
unfolding symbols_of
one_frame f g x y p q e =
    let o = one_shape (sealed f) (sealed g) x y (sealed_shaped f p) (sealed_shaped g q) e in
    (sym (unsealed_sealed f p) ∙ ap unsealed o.0 ∙ unsealed_sealed g q, o.1)

pub no_prefix : NoPrefix
no_prefix f g x p q e = one_frame f g x [] p q (e ∙ sym (append-nil (symbols_of g)))

-- ---- 4. A record of whole frames divides in one way alone

some_symbols : (f : Frame) (x : List ℕ) → Whole f → [] ≡ symbols_of f ++ x → ⊥
unfolding symbols_of
some_symbols f x w e = omega (arith, simp length-append at (ap length e), drawn_some (sealed_shaped f w))

pub unique_division : UniqueDivision
unfolding joined
unique_division [] [] p q e = refl
unique_division [] (g ∷ gs) p q e = absurd (some_symbols g (joined gs) q.0 e)
unique_division (f ∷ fs) [] p q e = absurd (some_symbols f (joined fs) p.0 (sym e))
unique_division (f ∷ fs) (g ∷ gs) p q e =
    let o = one_frame f g (joined fs) (joined gs) p.0 q.0 e in
    ap₂ {A = Frame} (λ h hs. h ∷ hs) o.0 (unique_division fs gs p.1 q.1 o.1)
