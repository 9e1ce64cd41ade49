-- The loop's invariant: the stores to come and those that were made are the whole run.
use mathlib.Core.Path.{◌≡◌}
use Prim.Native.Nat.{◌*◌}
use lib.ListN.{length, take}
use lib.Seq.{sets}
use Rattle.line.specs.Symbol.{octets_of}
use Rattle.line.proofs.Stores.{pairs}
use Rattle.line.proofs.read.get_octets.Given as goal

abbrev pub invariant-loop-i : goal.invariant-loop-i
invariant-loop-i l =
    sets l.octets l.i (pairs l.body (length l.initial.octets) l.i) ≡ sets l.initial.octets 0 (octets_of (take (2 * length l.initial.octets) l.body))
