-- Voltages and what the comparators show of them, as the code holds them.
-- Assumes nothing.
use Rattle.std.proofs.Math.Option.{Option, none, some}
use Rattle.std.specs.Prelude as rust
use Rattle.std.specs.Prelude.{Some, None, ℕ}
use Rattle.machine.specs.State as machine
use Rattle.machine.specs.Pins as comparators
use Rattle.fusb302.specs.declared.pins.Pins.{Pins}
use Rattle.fusb302.specs.declared.pins.Millivolts.{Millivolts}
use Rattle.fusb302.specs.declared.pins.Readings.{Readings}

abbrev pub pins_of : Pins → machine.Pins
pins_of p = record { cc1 = p.cc1.0; cc2 = p.cc2.0; vbus = p.vbus.0 }

abbrev pub measured_as : rust.Option Millivolts → Option ℕ
measured_as (Some v) = some v.0
measured_as None = none

abbrev pub shown_as : Readings → comparators.Readings
shown_as x = record { vbus_ok = x.vbus_ok; comp = x.comp; bc_lvl = x.bc_lvl }
