-- The octets of the groups passed stand at the beginning.
use mathlib.Core.Path.{◌≡◌}
use mathlib.Core.List.{map}
use lib.ListN.{take}
use lib.Seq.{sets}
use Rattle.script.proofs.Octets.{octet_of_group}
use Rattle.script.proofs.parse.store_octets.Given as goal

abbrev pub invariant-loop-n : goal.invariant-loop-n
invariant-loop-n l = l.octets ≡ sets l.initial.octets 0 (map octet_of_group (take l.n l.groups))
