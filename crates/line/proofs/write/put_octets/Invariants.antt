-- The loop's invariant: the stores to come and those that were made are the whole run.
use mathlib.Core.Path.{◌≡◌}
use Prim.Native.Nat.{◌*◌}
use lib.ListN.{drop}
use lib.Seq.{sets}
use Rattle.line.specs.Symbol.{encoded}
use Rattle.line.proofs.write.put_octets.Given as goal

abbrev pub invariant-loop-i : goal.invariant-loop-i
invariant-loop-i l = sets l.symbols (2 * l.i) (encoded (drop l.i l.octets)) ≡ sets l.initial.symbols 0 (encoded l.octets)
