-- What is read and not yet taken, and what is printed and not yet written, lie in their buffers.
-- Assumes nothing.
use Rattle.std.specs.Prelude.{Bool, ℕ, ◌≤◌, ltb}
use Rattle.stream.specs.declared.Input.{Input}
use Rattle.stream.specs.declared.Stream.{Stream}

-- the octets of either buffer
abbrev pub buffer_room : ℕ
buffer_room = 65536

-- an octet is there to be taken
abbrev pub octet_waits : Input → Bool
octet_waits i = ltb i.at i.end

abbrev pub InBuffer : Input → Type 0
InBuffer i = (i.at ≤ i.end) × (i.end ≤ buffer_room)

pub record Ready (s : Stream) : Type 0 where
  pub input : InBuffer s.input
  pub output : s.used ≤ buffer_room
