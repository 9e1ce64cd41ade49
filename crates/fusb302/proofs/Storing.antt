-- The table of registers, and what `map` makes of an array.
-- Assumes nothing.
use mathlib.Core.Path.{◌≡◌, sym, ◌∙◌}
use mathlib.Core.List.{List, map}
use Prim.Native.Nat.{ℕ}
use native.Mathlib.Omega.{arith}
use lib.ListN.{length, get_or, length-map, get_or-map}
use denote.Param.Members.{Mut, Called}
use Rattle.std.specs.Array.{IsMapOf}
use Rattle.std.proofs.lemmas.List.{ext_get_or}
use Rattle.machine.specs.Registers.{stored_bits}
use Rattle.fusb302.specs.declared.device.TheConstants.Device.{REGISTERS}

pub stored_at : (i : ℕ) → (get_or REGISTERS i (0, 0)).1 ≡ get_or stored_bits i 0
stored_at i = sym (get_or-map (λ (x : ℕ × ℕ). x.1) REGISTERS i (0, 0))

-- an array that a closure made of xs, giving h of each
module _ {F A B : Type 0} (g : Mut F (A × Unit {0}) B) (h : A → B) (gives : (f : F) (x : A) (y : B) (q : F) → Called g f (x, tt) y q → y ≡ h x) where
  pub mapped : (f : F) (xs : List A) (ys : List B) (d : A) → IsMapOf g f xs ys (length xs) → ys ≡ map h xs
  mapped f xs ys d m =
      ext_get_or (h d) ys (map h xs) (m.long ∙ sym (length-map xs h))
      (λ i less.
      let long = m.long in
      let one = m.at i d (h d) (omega arith) in
      gives one.0 _ _ one.1 one.2 ∙ sym (get_or-map h xs i d))
