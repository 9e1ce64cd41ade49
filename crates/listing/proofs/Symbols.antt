-- A symbol is put behind those held, and what the reader answers of all of them says how the step goes.
-- Assumes nothing.
use mathlib.Core.Path.{◌≡◌, subst}
use mathlib.Core.Bool.{true, false}
use mathlib.Core.List.{List, [], ◌∷◌, ◌++◌}
use Prim.Native.Nat.{ℕ, ◌+◌, ◌<◌, ◌≤◌, ◌^◌}
use native.Mathlib.Omega.{arith}
use lib.ListN.{length, take, set}
use lib.Seq.{length-take-le}
use Rattle.std.specs.Prelude.{Result, Ok, Err, Some}
use Rattle.line.specs.declared.read.FoundFrame.{FoundFrame}
use Rattle.line.specs.declared.read.ReadError.{ReadError}
use Rattle.line.specs.declared.read.ReadError.TheVariants.{SmallBuffer, NoFrame, TooShort, WrongCrc}
use Rattle.line.specs.Numbered.{kind_number}
use Rattle.line.specs.Reader.{octet_room, Reads}
use Rattle.text.specs.Put.{has_room, Puts}
use Rattle.listing.specs.declared.form.Scan.TheVariants.{Symbol}
use Rattle.listing.specs.declared.Listing.{Listing}
use Rattle.listing.specs.Lines.{frame_text, no_text, frame_line_room}
use Rattle.listing.specs.Promises.{Fed, window_room, Bounded, stopped, Goes}
use Rattle.line.proofs.Exactly.{none_place}
use Rattle.listing.proofs.Places.{wrong_crc_place}
use Rattle.listing.proofs.Answers.{read, is_frame, is_none, is_short, is_wrong, not_small, count_fits}
use Rattle.listing.proofs.Goings.{one_more, all_long, goes_frame, goes_short, goes_none, goes_wrong, gives}

module _ (l : Listing) (window out : List ℕ) (at : ℕ) (right : Bounded l) (long : length window ≡ window_room) (roomy : has_room frame_line_room out at ≡ true)
    (v : ℕ) (lent octets : List ℕ) (a : Result FoundFrame ReadError) (room : length lent ≡ octet_room) (kept : length octets ≡ octet_room)
    (reads : Reads (take (l.count + 1) (set window l.count v)) 0 lent a octets) where
  abbrev all : List ℕ
  all = take l.count window ++ (v ∷ [])

  of_all : Reads all 0 lent a octets
  of_all = subst (λ (w : List ℕ). Reads w 0 lent a octets) (one_more l.count v window (omega (arith, right.few))) reads

  roomed : octet_room ≤ length lent
  roomed = omega arith

  abbrev Ends : Fed → List ℕ → Type 0
  Ends r out' = Goes l (Some (Symbol v)) window out at r (set window l.count v) out'

  pub frame_fits : (found : FoundFrame) → a ≡ Ok found → found.count ≤ length octets
  frame_fits found e = count_fits all lent octets a roomed of_all found e

  pub frame_few : (found : FoundFrame) → a ≡ Ok found → length (take found.count octets) ≤ 34
  frame_few found e = let h = frame_fits found e in omega (arith, length-take-le found.count octets h)

  pub answers_frame : (found : FoundFrame) (number e : ℕ) (out' : List ℕ) → a ≡ Ok found → number ≡ kind_number found.kind → Puts out at (frame_text l.before (record { shape = record { kind = number; octets = take found.count octets }; exact = found.exact })) e out'
      → Ends (record { listing = record { scan = Symbol v; before = l.before + l.count + 1; count = 0 }; ends = false; at = e }) out'
  answers_frame found number e out' is kind p =
      goes_frame l window out at right long roomy v (read all lent octets a roomed of_all found) e out' (is_frame all lent octets a roomed of_all found is) (frame_few found is) (rw kind at p)

  pub answers_short : (q : ℕ) → a ≡ Err (TooShort q)
      → Ends (record { listing = record { scan = Symbol v; before = l.before; count = l.count + 1 }; ends = false; at = at }) out
  answers_short q is = goes_short l window out at right long roomy v q (is_short all lent octets a roomed of_all q is)

  pub none_fits : (q : ℕ) → a ≡ Err (NoFrame q) → l.before + q < 2 ^ 64
  none_fits q is =
      omega (arith, none_place all q (is_none all lent octets a roomed of_all q is), all_long l window out at right long roomy v, right.fits)

  pub answers_none : (q e : ℕ) (out' : List ℕ) (r : Fed) → a ≡ Err (NoFrame q) → Puts out at (no_text 13 (l.before + q)) e out' → r ≡ stopped l e → Ends r out'
  answers_none q e out' r is p g = gives g (goes_none l window out at right long roomy v q e out' (is_none all lent octets a roomed of_all q is) p)

  pub wrong_fits : (q : ℕ) → a ≡ Err (WrongCrc q) → l.before + q < 2 ^ 64
  wrong_fits q is =
      omega (arith, wrong_crc_place all q (is_wrong all lent octets a roomed of_all q is), all_long l window out at right long roomy v, right.fits)

  pub answers_wrong : (q e : ℕ) (out' : List ℕ) (r : Fed) → a ≡ Err (WrongCrc q) → Puts out at (no_text 15 (l.before + q)) e out' → r ≡ stopped l e → Ends r out'
  answers_wrong q e out' r is p g = gives g (goes_wrong l window out at right long roomy v q e out' (is_wrong all lent octets a roomed of_all q is) p)

  pub never_small : a ≡ Err SmallBuffer → ⊥
  never_small is = not_small all lent octets a roomed of_all is
