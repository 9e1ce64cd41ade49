-- What an outcome prints: reply, INT_N level after it, symbols or `-`; what a line out of form prints; and what `why` prints of a packet.
-- Assumes nothing.
use Rattle.std.specs.Prelude.{◌≡◌, Bool, true, false, ◌&&◌, List, [], ◌∷◌, ◌++◌, ℕ, leb, length, Result, Ok, Err, Some, None}
use Rattle.std.specs.Prelude as std
use Rattle.std.proofs.Math.Option.{Option, none, some}
use Rattle.text.specs.Ascii.{text}
use Rattle.text.specs.Hex.{hex_of}
use Rattle.text.specs.Put.{decimal_of, octets_text, has_room, Prints}
use Rattle.line.specs.Write.{frame_room}
use Rattle.machine.specs.Events.{Reply, done, value, no}
use Rattle.fusb302.specs.declared.why.Why.{Why}
use Rattle.fusb302.specs.declared.why.Why.TheVariants.{Refused, KindOff, CrcWrong, NoRoom, IsGoodCrc, AutoCrcOff, AutoPreOn, DriverOff, Leaves}
use Rattle.machine.specs.Why.{Reason, refused, kind_off, crc_wrong, no_room, is_good_crc, auto_crc_off, auto_pre_on, driver_off}

-- `ok`, `=vv`, `noN`
unfoldable pub reply_text : Reply → List ℕ
reply_text done = text "ok"
reply_text (value v) = text "=" ++ hex_of v
reply_text (no n) = text "no" ++ decimal_of 3 n

abbrev pub level_of : Bool → ℕ
level_of true = 0x31
level_of false = 0x30

-- the whole line
unfoldable pub outcome_text : Reply → Bool → List ℕ → List ℕ
outcome_text r high ss = reply_text r ++ ((0x20 ∷ level_of high ∷ []) ++ (octets_text ss ++ (0x0A ∷ [])))

-- `bad line N`; ten digits for any number below 2 ^ 32
unfoldable pub bad_line_text : ℕ → List ℕ
bad_line_text n = text "bad line " ++ (decimal_of 10 n ++ (0x0A ∷ []))

-- why no reply leaves, or that one does (02, A5)
unfoldable pub reason_text : Option Reason → List ℕ
reason_text none = text "leaves"
reason_text (some (refused n)) = text "refused " ++ decimal_of 3 n
reason_text (some kind_off) = text "kind off"
reason_text (some crc_wrong) = text "CRC wrong"
reason_text (some no_room) = text "no room"
reason_text (some is_good_crc) = text "it is a GoodCRC"
reason_text (some auto_crc_off) = text "AUTO_CRC off"
reason_text (some auto_pre_on) = text "AUTO_PRE on"
reason_text (some driver_off) = text "driver off"

-- behind the number of the packet's line
unfoldable pub why_text : ℕ → Option Reason → List ℕ
why_text n o = decimal_of 10 n ++ ((0x20 ∷ []) ++ (reason_text o ++ (0x0A ∷ [])))

-- room for any line: `no255`, a space and the level, 73 symbols, LF
abbrev pub bench_line_room : ℕ
bench_line_room = 227

-- ---- a reply and a reason by the number of a refusal

abbrev pub answered : Result (std.Option ℕ) ℕ → Reply
answered (Ok None) = done
answered (Ok (Some v)) = value v
answered (Err n) = no n

abbrev pub named : Why ℕ → Option Reason
named (Refused n) = some (refused n)
named KindOff = some kind_off
named CrcWrong = some crc_wrong
named NoRoom = some no_room
named IsGoodCrc = some is_good_crc
named AutoCrcOff = some auto_crc_off
named AutoPreOn = some auto_pre_on
named DriverOff = some driver_off
named Leaves = none

-- the same of any type of refusals, by a number that one converts to
abbrev pub Answers : {N : Type 0} → (N → ℕ → Type 0) → Result (std.Option ℕ) N → Reply → Type 0
Answers converts (Ok r) m = m ≡ answered (Ok r)
Answers converts (Err n) m = (k : ℕ) × converts n k × (m ≡ no k)

abbrev pub Names : {N : Type 0} → (N → ℕ → Type 0) → Why N → Option Reason → Type 0
Names converts (Refused n) o = (k : ℕ) × converts n k × (o ≡ some (refused k))
Names converts KindOff o = o ≡ some kind_off
Names converts CrcWrong o = o ≡ some crc_wrong
Names converts NoRoom o = o ≡ some no_room
Names converts IsGoodCrc o = o ≡ some is_good_crc
Names converts AutoCrcOff o = o ≡ some auto_crc_off
Names converts AutoPreOn o = o ≡ some auto_pre_on
Names converts DriverOff o = o ≡ some driver_off
Names converts Leaves o = o ≡ none

-- ---- promises

-- an outcome's line; nothing without room for any, nor with more symbols than any event sends
abbrev pub PrintsOutcome : Reply → Bool → List ℕ → List ℕ → ℕ → ℕ → List ℕ → Type 0
PrintsOutcome reply high symbols out at r out' =
    Prints (leb (length symbols) frame_room && has_room bench_line_room out at) out at (outcome_text reply high symbols) r out'

-- a bad line's; without room for any nothing
abbrev pub PrintsBad : ℕ → List ℕ → ℕ → ℕ → List ℕ → Type 0
PrintsBad line out at r out' = Prints (has_room bench_line_room out at) out at (bad_line_text line) r out'

-- a packet's, where it is asked why; without room for any line nothing
abbrev pub PrintsWhy : ℕ → Option Reason → List ℕ → ℕ → ℕ → List ℕ → Type 0
PrintsWhy line reason out at r out' = Prints (has_room bench_line_room out at) out at (why_text line reason) r out'
