-- A reply's text, a reason's and a line's stand whole, and are no longer than their room.
-- Assumes nothing.
use mathlib.Core.Path.{◌≡◌}
use mathlib.Core.Bool.{Bool}
use mathlib.Core.List.{List, [], ◌∷◌}
use mathlib.Core.Option.{Option, none, some}
use Prim.Native.Nat.{ℕ, ◌+◌, ◌≤◌}
use Rattle.std.specs.Prelude.{Some, None, Result, Ok, Err}
use Rattle.std.specs.Prelude as std
use native.Mathlib.Omega.{arith}
use lib.ListN.{length}
use Rattle.text.specs.Ascii.{text}
use Rattle.text.specs.Hex.{hex_of}
use Rattle.text.specs.Put.{decimal_of, octets_text, has_room}
use Rattle.text.specs.Page.{PutsOn, PrintsOn}
use Rattle.text.specs.declared.page.Page.{Page}
use Rattle.text.proofs.Texts.{same, few, octets_long}
use Rattle.text.proofs.Pages.{then_on, roomed_on}
use Rattle.line.specs.Write.{frame_room}
use Rattle.machine.specs.Events as events
use Rattle.machine.specs.Why.{Reason, refused, kind_off, crc_wrong, no_room, is_good_crc, auto_crc_off, auto_pre_on, driver_off}
use Rattle.fusb302.specs.declared.why.Why.{Why}
use Rattle.fusb302.specs.declared.why.Why.TheVariants.{Refused}
use Rattle.script.specs.Print.{answered, named, reply_text, level_of, outcome_text, bad_line_text, reason_text, why_text, bench_line_room}

-- a reply with its refusal by number
abbrev Numbered : Type 0
Numbered = Result (std.Option ℕ) ℕ

-- a text where there is room for so many
abbrev Asks_for : ℕ → Page → List ℕ → Page → Type 0
Asks_for need p t q = PrintsOn (has_room need p.octets.now p.at) p t q

-- so many octets have room
abbrev Room : ℕ → Page → Type 0
Room need p = p.at + need ≤ length p.octets.now

-- ---- a reply, with room for any

pub is_done : {p q : Page} (r : Numbered) → Room 5 p → r ≡ Ok None → Asks_for 2 p (text "ok") q → PutsOn p (reply_text (answered r)) q
unfolding reply_text
is_done r room e x = rw e (roomed_on 2 (omega arith) x)

pub is_value : {p m q : Page} (r : Numbered) (v : ℕ) → Room 5 p → r ≡ Ok (Some v) → Asks_for 1 p (text "=") m → Asks_for 2 m (hex_of v) q → PutsOn p (reply_text (answered r)) q
unfolding reply_text
is_value r v room e x y =
    let sign = roomed_on 1 (omega arith) x in
    rw e (then_on sign (roomed_on 2 (omega (arith, sign.puts.next, same sign.puts)) y))

pub is_no : {p m q : Page} {i : ℕ} (r : Numbered) (n : ℕ) → Room 5 p → r ≡ Err n → i ≡ n → Asks_for 2 p (text "no") m → Asks_for 3 m (decimal_of 3 i) q → PutsOn p (reply_text (answered r)) q
unfolding reply_text
is_no r n room e is x y =
    let word = roomed_on 2 (omega arith) x in
    rw (e, ← is) (then_on word (roomed_on 3 (omega (arith, word.puts.next, same word.puts)) y))

pub short : (r : events.Reply) → length (reply_text r) ≤ 5
unfolding reply_text hex_of
short events.done = omega arith
short (events.value v) = omega arith
short (events.no n) = let h = few 3 n in omega arith

-- ---- a reason, with room for any

pub is_refused : {p m q : Page} {i : ℕ} (w : Why ℕ) (n : ℕ) → Room 15 p → w ≡ Refused n → i ≡ n → Asks_for 8 p (text "refused ") m → Asks_for 3 m (decimal_of 3 i) q → PutsOn p (reason_text (named w)) q
unfolding reason_text
is_refused w n room e is x y =
    let word = roomed_on 8 (omega arith) x in
    rw (e, ← is) (then_on word (roomed_on 3 (omega (arith, word.puts.next, same word.puts)) y))

pub reason_short : (o : Option Reason) → length (reason_text o) ≤ 15
unfolding reason_text
reason_short none = omega arith
reason_short (some (refused n)) = let h = few 3 n in omega arith
reason_short (some kind_off) = omega arith
reason_short (some crc_wrong) = omega arith
reason_short (some no_room) = omega arith
reason_short (some is_good_crc) = omega arith
reason_short (some auto_crc_off) = omega arith
reason_short (some auto_pre_on) = omega arith
reason_short (some driver_off) = omega arith

pub is_word : {p q : Page} (w v : Why ℕ) → Room 15 p → w ≡ v → Asks_for (length (reason_text (named v))) p (reason_text (named v)) q → PutsOn p (reason_text (named w)) q
is_word w v room e x = rw e (roomed_on (length (reason_text (named v))) (omega (arith, reason_short (named v))) x)

-- ---- the lines, with room for any

pub why_line : {p m l k q : Page} (n : ℕ) (o : Option Reason) → Room bench_line_room p
    → Asks_for 10 p (decimal_of 10 n) m → Asks_for 1 m (0x20 ∷ []) l → PutsOn l (reason_text o) k → Asks_for 1 k (0x0A ∷ []) q → PutsOn p (why_text n o) q
unfolding why_text
why_line n o room x y s z =
    let number = roomed_on 10 (omega arith) x in
    let space = roomed_on 1 (omega (arith, number.puts.next, same number.puts, few 10 n)) y in
    let end = roomed_on 1 (omega (arith, number.puts.next, same number.puts, few 10 n, space.puts.next, same space.puts, s.puts.next, same s.puts, reason_short o)) z in
    then_on number (then_on space (then_on s end))

-- the number and the space leave room for any reason
pub why_room : {p m l : Page} (n : ℕ) → Room bench_line_room p → Asks_for 10 p (decimal_of 10 n) m → Asks_for 1 m (0x20 ∷ []) l → Room 15 l
why_room n room x y =
    let number = roomed_on 10 (omega arith) x in
    let space = roomed_on 1 (omega (arith, number.puts.next, same number.puts, few 10 n)) y in
    omega (arith, number.puts.next, same number.puts, few 10 n, space.puts.next, same space.puts)

pub bad_line : {p m l q : Page} (n : ℕ) → Room bench_line_room p → Asks_for 9 p (text "bad line ") m → Asks_for 10 m (decimal_of 10 n) l → Asks_for 1 l (0x0A ∷ []) q → PutsOn p (bad_line_text n) q
unfolding bad_line_text
bad_line n room x y z =
    let word = roomed_on 9 (omega arith) x in
    let number = roomed_on 10 (omega (arith, word.puts.next, same word.puts)) y in
    let end = roomed_on 1 (omega (arith, word.puts.next, same word.puts, number.puts.next, same number.puts, few 10 n)) z in
    then_on word (then_on number end)

pub outcome : {p m l k j q : Page} {v : ℕ} (r : events.Reply) (high : Bool) (symbols : List ℕ) → length symbols ≤ frame_room → Room bench_line_room p
    → PutsOn p (reply_text r) m → Asks_for 1 m (0x20 ∷ []) l → v ≡ level_of high → Asks_for 1 l (v ∷ []) k
    → Asks_for (length (octets_text symbols)) k (octets_text symbols) j → Asks_for 1 j (0x0A ∷ []) q → PutsOn p (outcome_text r high symbols) q
unfolding outcome_text
outcome r high symbols n room s x w y z u =
    let space = roomed_on 1 (omega (arith, s.puts.next, same s.puts, short r)) x in
    let level = roomed_on 1 (omega (arith, s.puts.next, same s.puts, short r, space.puts.next, same space.puts)) y in
    let row = roomed_on (length (octets_text symbols)) (omega (arith, s.puts.next, same s.puts, short r, space.puts.next, same space.puts, level.puts.next, same level.puts, octets_long 72 symbols n)) z in
    let end = roomed_on 1 (omega (arith, s.puts.next, same s.puts, short r, space.puts.next, same space.puts, level.puts.next, same level.puts, octets_long 72 symbols n, row.puts.next, same row.puts)) u in
    then_on s (then_on (then_on space (rw w at level)) (then_on row end))
