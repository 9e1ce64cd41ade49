-- The receive FIFO as it lies in memory, and the octets that it holds.
-- Assumes nothing.
use Rattle.std.specs.Prelude.{◌≡◌, List, ℕ, ◌≤◌, length, take}
use Rattle.machine.specs.Status.{rx_room}
use Rattle.fusb302.specs.declared.fifo.Fifo.{Fifo}

abbrev pub held : Fifo → List ℕ
held f = take f.len f.octets

pub record Sound (f : Fifo) : Type 0 where
  pub size : length f.octets ≡ rx_room
  pub room : f.len ≤ rx_room
