-- Which lines are in form, and what each means: a count, a setup write, or an event of the device.
-- Assumes nothing.
use Rattle.std.specs.Prelude.{◌≡◌, Bool, true, false, cond, ◌&&◌, List, [], ◌++◌, ℕ, ◌+◌, ◌<◌, leb, eqb, length, take, drop, get_or, Option, Some, None}
use Rattle.text.specs.Ascii.{text}
use Rattle.text.specs.Put.{value_of}
use Rattle.line.specs.Write.{frame_room}
use Rattle.machine.specs.Events.{Event, write, read, pass, hard_reset, packet, sense}
use Rattle.script.specs.declared.parse.Line.{Line}
use Rattle.script.specs.declared.parse.Line.TheVariants.{Write, Read, Time, HardReset, Packet, Sense}
use Rattle.script.specs.Text.{fits, octet_at, is_decimal, digits_in, are_octets, octets_in}

-- ---- counts: a decimal

unfoldable pub count_of : List ℕ → Option ℕ
count_of l = cond (is_decimal l) (Some (value_of l)) None

-- ---- events: each is lent room for one frame

-- `w aa vv`
abbrev pub write_event : ℕ → ℕ → Event
write_event a v = write frame_room a v

-- what follows `t `: a decimal
abbrev pub timed : Option ℕ → Option Event
timed None = None
timed (Some n) = Some (pass frame_room n)

-- the number that a line begins with, and what stands behind it
unfoldable pub number_part : List ℕ → List ℕ
number_part l = take (digits_in l) l

unfoldable pub rest_part : List ℕ → List ℕ
rest_part l = drop (digits_in l) l

-- what follows `p `: the kind, and octets with a space before each, perhaps none
abbrev pub heard : Option ℕ → Bool → List ℕ → Option Event
heard None b octets = None
heard (Some k) true octets = Some (packet frame_room k octets)
heard (Some k) false octets = None

unfoldable pub packet_of : List ℕ → Option Event
packet_of l = heard (count_of (number_part l)) (are_octets (rest_part l)) (octets_in (rest_part l))

-- what follows `v `: three decimals, a space between, none above 65,535 (02, A1)
abbrev pub up_to : ℕ → Option ℕ → Option ℕ
up_to m None = None
up_to m (Some n) = cond (leb n m) (Some n) None

unfoldable pub millivolts_of : List ℕ → Option ℕ
millivolts_of l = up_to 65535 (count_of l)

-- whether a space stands behind the number, and what stands behind that
unfoldable pub is_spaced : List ℕ → Bool
is_spaced l = eqb (get_or l (digits_in l) 0) 0x20

unfoldable pub next_part : List ℕ → List ℕ
next_part l = drop (digits_in l + 1) l

abbrev pub sensed : (cc1 cc2 vbus : Option ℕ) → Option Event
sensed None y z = None
sensed (Some x) None z = None
sensed (Some x) (Some y) None = None
sensed (Some x) (Some y) (Some z) = Some (sense frame_room x y z)

unfoldable pub voltages_of : List ℕ → Option Event
voltages_of l =
    cond (is_spaced l && is_spaced (next_part l))
    (sensed (millivolts_of (number_part l)) (millivolts_of (number_part (next_part l))) (millivolts_of (next_part (next_part l)))) None

-- by its first letter, and a space behind it
unfoldable pub lettered_of : List ℕ → Option Event
lettered_of l =
    cond (fits (text "t ") (take 2 l)) (timed (count_of (drop 2 l)))
    (cond (fits (text "p ") (take 2 l)) (packet_of (drop 2 l))
    (cond (fits (text "v ") (take 2 l)) (voltages_of (drop 2 l)) None))

unfoldable pub form_of : List ℕ → Option Event
form_of l =
    cond (fits (text "w ## ##") l) (Some (write_event (octet_at 2 l) (octet_at 5 l)))
    (cond (fits (text "r ##") l) (Some (read frame_room (octet_at 2 l)))
    (cond (fits (text "h") l) (Some (hard_reset frame_room))
    (lettered_of l)))

-- a line of over 255 characters is out of form
unfoldable pub event_of : List ℕ → Option Event
event_of l = cond (leb (length l) 255) (form_of l) None

-- `aa vv`
unfoldable pub setup_of : List ℕ → Option Event
setup_of l = cond (fits (text "## ##") l) (Some (write_event (octet_at 0 l) (octet_at 3 l))) None

-- ---- answers

-- 7 digits write less than ten million
abbrev pub Few : Option ℕ → Type 0
Few (Some n) = n < 10000000
Few None = Unit {0}

-- the answer to a count
pub record ReadsCount (l : List ℕ) (r : Option ℕ) : Type 0 where
  pub says : r ≡ count_of l
  pub few : Few r

-- the answer to a voltage
abbrev pub ReadsMillivolts : List ℕ → Option ℕ → Type 0
ReadsMillivolts l r = r ≡ millivolts_of l

-- the answer that says an event, whose octets are lent beside it
abbrev pub line_of : Option Event → Option Line
line_of None = None
line_of (Some (write r a v)) = Some (Write a v)
line_of (Some (read r a)) = Some (Read a)
line_of (Some (pass r n)) = Some (Time n)
line_of (Some (hard_reset r)) = Some HardReset
line_of (Some (packet r k m)) = Some (Packet k (length m))
line_of (Some (sense r x y z)) = Some (Sense x y z)

abbrev pub packet_octets : Option Event → List ℕ
packet_octets None = []
packet_octets (Some (write r a v)) = []
packet_octets (Some (read r a)) = []
packet_octets (Some (pass r n)) = []
packet_octets (Some (hard_reset r)) = []
packet_octets (Some (packet r k m)) = m
packet_octets (Some (sense r x y z)) = []

pub record Parses (e : Option Event) (before : List ℕ) (r : Option Line) (after : List ℕ) : Type 0 where
  pub says : r ≡ line_of e
  pub leaves : after ≡ packet_octets e ++ drop (length (packet_octets e)) before

-- the answer to a line of the setup, which has no octets
abbrev pub ParsesSetup : List ℕ → Option Line → Type 0
ParsesSetup l r = r ≡ line_of (setup_of l)
