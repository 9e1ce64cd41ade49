-- What the parts of a device keep.
-- Assumes nothing.
use mathlib.Core.Path.{◌≡◌}
use native.Mathlib.Omega.{arith}
use lib.ListN.{length}
use lib.Seq.{length-take-le}
use Rattle.fusb302.specs.declared.queue.Queue.{Queue}
use Rattle.fusb302.specs.declared.fifo.Fifo.{Fifo}
use Rattle.fusb302.specs.declared.device.Device.{Device}
use Rattle.fusb302.specs.Queued.{queued, Kept}
use Rattle.fusb302.specs.Held.{held, Sound}
use Rattle.fusb302.specs.View.{Arranged}

-- ---- what both FIFOs keep

pub sound : (f : Fifo) → Sound f
sound f = record { size = f.size; room = f.room }

pub kept : (q : Queue) → Kept q
kept q = record { size = q.size; room = q.room; left = q.counted }

-- and so does a device, with its registers
pub arranged : (d : Device) → Arranged d
arranged d = record { cells = d.registers; tx = kept d.tx; rx = sound d.rx }

pub held_length : (f : Fifo) → length (held f) ≡ f.len
held_length f = let s = f.size in let r = f.room in length-take-le f.len f.octets (omega arith)

pub queued_length : (q : Queue) → length (queued q) ≡ q.len
queued_length q = let s = q.size in let r = q.room in length-take-le q.len q.octets (omega arith)
