-- The transmit queue as it lies in memory, and the octets that it holds.
-- Assumes nothing.
use Rattle.std.specs.Prelude as rust
use Rattle.std.specs.Prelude.{Some, None, ◌≡◌, cond, List, map, ℕ, ◌≤◌, ltb, length, take}
use Rattle.std.proofs.Math.Option.{Option, none, some}
use Rattle.line.specs.declared.kind.SopKind.{SopKind}
use Rattle.line.specs.Numbered.{sop_number}
use Rattle.line.specs.Kind.{ordered_sets, sop_kinds, kind_from}
use Rattle.line.specs.Frame.{Frame}
use Rattle.machine.specs.Status.{tx_room}
use Rattle.machine.specs.Queue.{set_symbol, to_come}
use Rattle.fusb302.specs.declared.queue.Queue.{Queue}
use Rattle.fusb302.specs.declared.queue.Message.{Message}

abbrev pub queued : Queue → List ℕ
queued q = take q.len q.octets

-- sizes, and what is kept beside the octets so that it need not be counted again
pub record Kept (q : Queue) : Type 0 where
  pub size : length q.octets ≡ tx_room
  pub room : q.len ≤ tx_room
  pub left : q.left ≡ to_come 0 (queued q)

-- the frame that an answer means
abbrev pub spelt_as : rust.Option Message → Option Frame
spelt_as (Some m) = some (record { kind = sop_number m.kind; octets = m.octets.now })
spelt_as None = none

-- an SOP kind by its number, or none
abbrev pub sop_kind : rust.Option SopKind → Option ℕ
sop_kind (Some s) = some (sop_number s)
sop_kind None = none

abbrev pub sop_only : Option ℕ → Option ℕ
sop_only none = none
sop_only (some k) = cond (ltb k sop_kinds) (some k) none

-- the SOP kind whose set these four tokens are
abbrev pub kind_of : List ℕ → Option ℕ
kind_of l = sop_only (kind_from 0 ordered_sets (map set_symbol l))
