-- What holds of a stream; proofs/ has the proof of each statement.
-- Assumes nothing.
use Rattle.std.specs.Prelude.{◌≡◌, Bool, true, false, List, ℕ, ◌≤◌, length}
use Rattle.text.specs.Put.{has_room}
use Rattle.stream.specs.declared.Input.{Input}
use Rattle.stream.specs.declared.Stream.{Stream}
use Rattle.stream.specs.Ready.{buffer_room, octet_waits, InBuffer, Ready}
use Rattle.stream.specs.Promises.{BeginsFresh, WritesOut, MakesRoom, Fills, StepsTo}

-- ---- 1. What each function leaves lies in the buffers, if what it is given does

pub record StaysReady : Type 0 where
  pub begin : (r : Stream) → BeginsFresh r → Ready r
  pub write_out : (s r : Stream) → Ready s → WritesOut s r → Ready r
  pub room : (s r : Stream) (need : ℕ) (out : List ℕ) → Ready s → MakesRoom (has_room need out s.used) s r → Ready r
  pub fill : (s r : Stream) (before after : List ℕ) → Ready s → Fills (octet_waits s.input) s before r after → Ready r
  pub stepped : (s : Stream) (input : Input) (used : ℕ) (ends : Bool) (r : Stream) → InBuffer input → used ≤ buffer_room
      → StepsTo s input used ends r → Ready r

-- ---- 2. Room that is made is there, of all that the lent octets can hold

abbrev pub RoomIsMade : Type 0
RoomIsMade =
    (s r : Stream) (need : ℕ) (out : List ℕ) → need ≤ length out → MakesRoom (has_room need out s.used) s r
    → has_room need out r.used ≡ true

-- ---- 3. No second outcome, but for what the system answers to a read or a write

abbrev pub OneBeginning : Type 0
OneBeginning = (r s : Stream) → BeginsFresh r → BeginsFresh s → r ≡ s

abbrev pub OneWritten : Type 0
OneWritten = (s r q : Stream) → WritesOut s r → WritesOut s q → r.on ≡ q.on → r ≡ q

abbrev pub OneMaking : Type 0
OneMaking = (b : Bool) (s r q : Stream) → MakesRoom b s r → MakesRoom b s q → r.on ≡ q.on → r ≡ q

-- a fill that does not read
abbrev pub OneFilling : Type 0
OneFilling =
    (b : Bool) (s r q : Stream) (before a c : List ℕ) → Fills b s before r a → Fills b s before q c → r.on ≡ q.on
    → (b ≡ false → r.on ≡ false) → (r ≡ q) × (a ≡ c)

-- one that reads leaves open how many octets came, and the buffer that they came into
abbrev pub OneFillingRead : Type 0
OneFillingRead =
    (s r q : Stream) (before a c : List ℕ) → Fills false s before r a → Fills false s before q c → r.on ≡ true → q.on ≡ true
    → (r.used ≡ q.used) × (r.input.at ≡ q.input.at)

abbrev pub OneStepping : Type 0
OneStepping =
    (s : Stream) (input : Input) (used : ℕ) (ends : Bool) (r q : Stream) → StepsTo s input used ends r → StepsTo s input used ends q → r ≡ q
