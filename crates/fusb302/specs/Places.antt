-- What stands at an address, as the machine has it.
-- Assumes nothing.
use Rattle.std.specs.Prelude.{◌≡◌, false, ℕ, ◌+◌, ◌≤◌, Option, Some, None}
use Rattle.machine.specs.Registers.{device_id, status0a, interrupt, fifos, exists}
use Rattle.fusb302.specs.declared.bits.Place.{Place}
use Rattle.fusb302.specs.declared.bits.Place.TheVariants.{Id, Stored, Shown, Port}

-- a cell is one of 15, so that what is stored are 02 to 10
unfoldable pub Placed : ℕ → Option Place → Type 0
Placed a (Some Id) = a ≡ device_id
Placed a (Some (Stored c)) = a ≡ c.at + 2
Placed a (Some Shown) = (status0a ≤ a) × (a ≤ interrupt)
Placed a (Some Port) = a ≡ fifos
Placed a None = exists a ≡ false
