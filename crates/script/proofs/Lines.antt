-- What a line means, from the tests that led to the answer.
-- Assumes nothing.
use mathlib.Core.Path.{◌≡◌, refl, sym, ap, ◌∙◌, subst}
use mathlib.Core.Bool.{Bool, true, false, cond, ◌&&◌}
use mathlib.Core.List.{List, [], ◌∷◌}
use Prim.Native.Nat.{ℕ, ◌*◌, ◌<◌, ◌≤◌}
use native.Mathlib.Nat.{zero-add}
use native.Mathlib.Omega.{arith}
use lib.ListN.{length, take, drop, length-take, length-drop}
use lib.Seq.{sets, sets-eq}
use Rattle.std.proofs.lemmas.Option.{none-some}
use Rattle.std.specs.Prelude.{Option, None, Some}
use Rattle.text.specs.Ascii.{text}
use Rattle.line.specs.Write.{frame_room}
use Rattle.machine.specs.Events.{Event, packet}
use Rattle.script.specs.declared.parse.Line.{Line}
use Rattle.script.specs.declared.parse.Line.TheVariants.{Packet}
use Rattle.script.specs.Text.{fits, digits_in, are_octets, octets_in}
use Rattle.script.specs.Parse.{count_of, number_part, rest_part, packet_of, millivolts_of, is_spaced, next_part, sensed, voltages_of, lettered_of, line_of, packet_octets, Parses}
use Rattle.script.proofs.Masks.{lengths_differ}
use Rattle.script.proofs.Numbers.{too_few}

-- an event that was found out
of : {e f : Option Event} {before after : List ℕ} {r : Option Line} → e ≡ f → Parses f before r after → Parses e before r after
of {e} {f} {before} {after} {r} p h = subst (λ (x : Option Event). Parses x before r after) (sym p) h

out_of_form : {e : Option Event} {before : List ℕ} → e ≡ None → Parses e before None before
out_of_form p = of {f = None} p (record { says = refl; leaves = refl })

-- ---- after `p `

some_digits : (l : List ℕ) (k : ℕ) → count_of l ≡ Some k → 1 ≤ length l
some_digits [] k e = absurd (none-some k (sym (too_few [] (omega arith)) ∙ e))
some_digits (x ∷ l) k e = omega arith

thirds : (l : List ℕ) → 3 * length (octets_in l) ≤ length l
unfolding octets_in
thirds [] = omega arith
thirds (s ∷ []) = omega arith
thirds (s ∷ a ∷ []) = omega arith
thirds (s ∷ a ∷ b ∷ l) = let h = thirds l in omega arith

module _ (s before digits rest : List ℕ) (parts : (digits ≡ number_part s) × (rest ≡ rest_part s)) where
  pub no_kind : None ≡ count_of digits → Parses (packet_of s) before None before
  unfolding packet_of
  no_kind e = out_of_form (rw (← parts.0, ← e) refl)

  module _ (k : ℕ) (e : Some k ≡ count_of digits) where
    pub no_octets : are_octets rest ≡ false → Parses (packet_of s) before None before
    unfolding packet_of
    no_octets f = out_of_form (rw (← parts.0, ← e, ← parts.1, f) refl)

    module _ (few : length s ≤ 253) (room : 84 ≤ length before) where
      -- the kind takes one character at least
      pub enough : length rest ≤ 3 * length before
      unfolding number_part rest_part
      enough =
          let h = some_digits digits k (sym e) in
          omega (arith, ap length parts.0, ap length parts.1, length-take (digits_in s) s, length-drop (digits_in s) s)

      pub all_heard : (count : ℕ) (after : List ℕ) → are_octets rest ≡ true → count ≡ length (octets_in rest) → after ≡ sets before 0 (octets_in rest)
          → Parses (packet_of s) before (Some (Packet k count)) after
      unfolding packet_of
      all_heard count after f m a =
          let h = enough in
          let t = thirds rest in
          let q = rw zero-add at (sets-eq (octets_in rest) before 0 (omega arith)) in
          of {f = Some (packet frame_room k (octets_in rest))} (rw (← parts.0, ← e, ← parts.1, f) refl)
          (record { says = ap (λ (n : ℕ). Some (Packet k n)) m; leaves = a ∙ q })

-- ---- a line of the events

sensed_none : (x y z : Option ℕ) → packet_octets (sensed x y z) ≡ []
sensed_none None y z = refl
sensed_none (Some x) None z = refl
sensed_none (Some x) (Some y) None = refl
sensed_none (Some x) (Some y) (Some z) = refl

voltages_none : (l : List ℕ) → packet_octets (voltages_of l) ≡ []
unfolding voltages_of
voltages_none l = go (is_spaced l && is_spaced (next_part l))
  where
    go : (b : Bool)
        → packet_octets (cond b (sensed (millivolts_of (number_part l)) (millivolts_of (number_part (next_part l))) (millivolts_of (next_part (next_part l)))) None) ≡ []
    go true = sensed_none (millivolts_of (number_part l)) (millivolts_of (number_part (next_part l))) (millivolts_of (next_part (next_part l)))
    go false = refl

-- by a letter and a space
module _ (l before : List ℕ) where
  short_line : (m : List ℕ) → length m ≡ 2 → length l < 2 → fits m (take 2 l) ≡ false
  short_line m k g = sym (lengths_differ m (take 2 l) (λ e. omega (arith, length-take 2 l)))

  pub tiny : length l < 2 → Parses (lettered_of l) before None before
  unfolding lettered_of
  tiny g = out_of_form (rw (short_line (text "t ") refl g, short_line (text "p ") refl g, short_line (text "v ") refl g) refl)

  pub is_sense : (head rest : List ℕ) → head ≡ take 2 l → rest ≡ drop 2 l → fits (text "t ") head ≡ false → fits (text "p ") head ≡ false
      → (x : Option Line) → fits (text "v ") head ≡ true → x ≡ line_of (voltages_of rest) → Parses (lettered_of l) before x before
  unfolding lettered_of
  is_sense head rest eh er t p x v e = of {f = voltages_of rest} (rw (← eh, t, p, v, ← er) refl) (record { says = e; leaves = rw (voltages_none rest) refl })
