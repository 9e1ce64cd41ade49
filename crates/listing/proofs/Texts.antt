-- The lines stand whole, and are no longer than their room.
-- Assumes nothing.
use mathlib.Core.Bool.{Bool, true, false}
use mathlib.Core.List.{List, [], ◌∷◌, ◌++◌}
use Prim.Native.Nat.{ℕ, ◌+◌, ◌≤◌}
use native.Mathlib.Omega.{arith}
use lib.ListN.{length, length-append}
use Rattle.line.specs.Read.{ReadFrame}
use Rattle.text.specs.Ascii.{text}
use Rattle.text.specs.Put.{decimal_of, octets_text, has_room}
use Rattle.text.specs.Page.{PutsOn, PrintsOn}
use Rattle.text.specs.declared.page.Page.{Page}
use Rattle.text.proofs.Texts.{same, few, octets_long}
use Rattle.text.proofs.Pages.{then_on, roomed_on}
use Rattle.listing.specs.Lines.{place_text, mark_text, frame_text, no_text, bad_octet_text, frame_line_room}

-- ---- whole, with room for any line

pub mark_few : (exact : Bool) → length (mark_text exact) ≤ 1
unfolding mark_text
mark_few true = omega arith
mark_few false = omega arith

-- a text where there is room for so many
abbrev Asks_for : ℕ → Page → List ℕ → Page → Type 0
Asks_for need p t q = PrintsOn (has_room need p.octets.now p.at) p t q

-- room for any line
abbrev Room : Page → Type 0
Room p = p.at + frame_line_room ≤ length p.octets.now

pub frame_line : {p m l k n j q : Page} (place kind : ℕ) (exact : Bool) (octets : List ℕ) → length octets ≤ 34 → Room p
    → Asks_for 20 p (decimal_of 20 place) m → Asks_for 1 m (0x20 ∷ []) l → Asks_for 1 l (decimal_of 1 kind) k → Asks_for 1 k (mark_text exact) n
    → Asks_for (length (octets_text octets)) n (octets_text octets) j → Asks_for 1 j (0x0A ∷ []) q
    → PutsOn p (frame_text place (record { shape = record { kind = kind; octets = octets }; exact = exact })) q
unfolding frame_text place_text
frame_line place kind exact octets few_octets room x y z t u v =
    let at = roomed_on 20 (omega arith) x in
    let space = roomed_on 1 (omega (arith, at.puts.next, same at.puts, few 20 place)) y in
    let said = roomed_on 1 (omega (arith, at.puts.next, same at.puts, few 20 place, space.puts.next, same space.puts)) z in
    let mark = roomed_on 1 (omega (arith, at.puts.next, same at.puts, few 20 place, space.puts.next, same space.puts, said.puts.next, same said.puts, few 1 kind)) t in
    let row = roomed_on (length (octets_text octets)) (omega (arith, at.puts.next, same at.puts, few 20 place, space.puts.next, same space.puts, said.puts.next, same said.puts, few 1 kind, mark.puts.next, same mark.puts, mark_few exact, octets_long 33 octets few_octets)) u in
    let end = roomed_on 1 (omega (arith, at.puts.next, same at.puts, few 20 place, space.puts.next, same space.puts, said.puts.next, same said.puts, few 1 kind, mark.puts.next, same mark.puts, mark_few exact, octets_long 33 octets few_octets, row.puts.next, same row.puts)) v in
    then_on at (then_on space (then_on said (then_on mark (then_on row end))))

pub no_line : {p m l k j q : Page} (n place : ℕ) → Room p
    → Asks_for 2 p (text "no") m → Asks_for 2 m (decimal_of 2 n) l → Asks_for 1 l (0x20 ∷ []) k → Asks_for 20 k (decimal_of 20 place) j → Asks_for 1 j (0x0A ∷ []) q
    → PutsOn p (no_text n place) q
unfolding no_text place_text
no_line n place room x y z u v =
    let word = roomed_on 2 (omega arith) x in
    let number = roomed_on 2 (omega (arith, word.puts.next, same word.puts)) y in
    let space = roomed_on 1 (omega (arith, word.puts.next, same word.puts, number.puts.next, same number.puts, few 2 n)) z in
    let at = roomed_on 20 (omega (arith, word.puts.next, same word.puts, number.puts.next, same number.puts, few 2 n, space.puts.next, same space.puts)) u in
    let end = roomed_on 1 (omega (arith, word.puts.next, same word.puts, number.puts.next, same number.puts, few 2 n, space.puts.next, same space.puts, at.puts.next, same at.puts, few 20 place)) v in
    then_on word (then_on number (then_on space (then_on at end)))

pub bad_line : {p m l q : Page} (n : ℕ) → Room p
    → Asks_for 10 p (text "bad octet ") m → Asks_for 20 m (decimal_of 20 n) l → Asks_for 1 l (0x0A ∷ []) q → PutsOn p (bad_octet_text n) q
unfolding bad_octet_text place_text
bad_line n room x y z =
    let word = roomed_on 10 (omega arith) x in
    let number = roomed_on 20 (omega (arith, word.puts.next, same word.puts)) y in
    let end = roomed_on 1 (omega (arith, word.puts.next, same word.puts, number.puts.next, same number.puts, few 20 n)) z in
    then_on word (then_on number end)

-- ---- short

pub frame_short : (p : ℕ) (r : ReadFrame) → length r.shape.octets ≤ 34 → length (frame_text p r) ≤ frame_line_room
unfolding frame_text place_text
frame_short p r h =
    let s = r.shape in
    let octets = octets_text s.octets ++ (0x0A ∷ []) in
    let tail = mark_text r.exact ++ octets in
    omega (arith, length-append (decimal_of 20 p) ((0x20 ∷ []) ++ (decimal_of 1 s.kind ++ tail)), length-append (decimal_of 1 s.kind) tail, length-append (mark_text r.exact) octets, length-append (octets_text s.octets) (0x0A ∷ []), few 20 p, few 1 s.kind, mark_few r.exact, octets_long 33 s.octets h)

pub no_short : (n p : ℕ) → length (no_text n p) ≤ frame_line_room
unfolding no_text place_text
no_short n p =
    let tail = decimal_of 20 p ++ (0x0A ∷ []) in
    omega (arith, length-append (decimal_of 2 n) ((0x20 ∷ []) ++ tail), length-append (decimal_of 20 p) (0x0A ∷ []), few 2 n, few 20 p)

pub bad_short : (n : ℕ) → length (bad_octet_text n) ≤ frame_line_room
unfolding bad_octet_text place_text
bad_short n = omega (arith, length-append (decimal_of 20 n) (0x0A ∷ []), few 20 n)
