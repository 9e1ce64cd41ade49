use mathlib.Core.Path.{◌≡◌}
use Prim.Native.Nat.{◌-◌, ◌≤◌}
use Rattle.line.specs.Crc.{crc_bits}
use Rattle.line.proofs.crc.octet.Given as goal

abbrev pub invariant-loop : goal.invariant-loop
invariant-loop l = (l.counter ≤ 8) × (l.x ≡ crc_bits l.counter l.initial.x)

abbrev pub decreases-loop : goal.decreases-loop
decreases-loop l = 8 - l.counter
