-- What can happen to the device, and what it answers.
-- Assumes nothing.
use Rattle.std.specs.Prelude.{Bool, false, List, ℕ, ◌<◌, ◌^◌}
use Rattle.line.specs.Frame.{Octets}

-- each event lends room for so many symbols
pub data Event : Type 0 where
  write : (room address value : ℕ) → Event
  read : (room address : ℕ) → Event
  pass : (room microseconds : ℕ) → Event
  hard_reset : (room : ℕ) → Event
  packet : (room kind : ℕ) → List ℕ → Event
  sense : (room cc1 cc2 vbus : ℕ) → Event  -- millivolts (02, A1)

-- the numbers are such as the device's interface can carry
abbrev pub Fits : Event → Type 0
Fits (write room a v) = (a < 256) × (v < 256)
Fits (read room a) = a < 256
Fits (pass room n) = n < 2 ^ 32
Fits (hard_reset room) = Unit {0}
Fits (packet room k m) = (k < 2 ^ 32) × Octets m
Fits (sense room cc1 cc2 vbus) = (cc1 < 2 ^ 16) × ((cc2 < 2 ^ 16) × (vbus < 2 ^ 16))

pub data Reply : Type 0 where
  done : Reply
  value : ℕ → Reply
  no : ℕ → Reply

-- ---- a test of one kind of event, false of the others

abbrev pub room : Event → ℕ
room (write r a v) = r
room (read r a) = r
room (pass r n) = r
room (hard_reset r) = r
room (packet r k m) = r
room (sense r x y z) = r

abbrev pub on_write : (ℕ → ℕ → Bool) → Event → Bool
on_write f (write r a v) = f a v
on_write f (read r a) = false
on_write f (pass r n) = false
on_write f (hard_reset r) = false
on_write f (packet r k m) = false
on_write f (sense r x y z) = false

abbrev pub on_read : (ℕ → Bool) → Event → Bool
on_read f (write r a v) = false
on_read f (read r a) = f a
on_read f (pass r n) = false
on_read f (hard_reset r) = false
on_read f (packet r k m) = false
on_read f (sense r x y z) = false

abbrev pub on_pass : (ℕ → Bool) → Event → Bool
on_pass f (write r a v) = false
on_pass f (read r a) = false
on_pass f (pass r n) = f n
on_pass f (hard_reset r) = false
on_pass f (packet r k m) = false
on_pass f (sense r x y z) = false

abbrev pub on_packet : (ℕ → List ℕ → Bool) → Event → Bool
on_packet f (write r a v) = false
on_packet f (read r a) = false
on_packet f (pass r n) = false
on_packet f (hard_reset r) = false
on_packet f (packet r k m) = f k m
on_packet f (sense r x y z) = false
