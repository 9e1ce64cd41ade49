-- The buffers of a console.
-- Assumes nothing.
use Rattle.std.specs.Prelude.{◌≡◌}
use Rattle.stream.specs.declared.console.Console.{Console}

-- a step leaves both as they were; what it takes or prints is told by the stream
abbrev pub KeepsBuffers : Console → Console → Type 0
KeepsBuffers c d = (d.buf ≡ c.buf) × (d.out ≡ c.out)
