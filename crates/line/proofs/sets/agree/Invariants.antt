-- The places counted and those still to be compared are all in which the two agree.
use mathlib.Core.Path.{◌≡◌}
use Prim.Native.Nat.{◌+◌}
use Rattle.line.specs.Kind.{set_of}
use Rattle.line.specs.Numbered.{kind_number}
use Rattle.line.specs.Read.{agree}
use Rattle.line.proofs.sets.agree.Given as goal

abbrev pub invariant-loop-a : goal.invariant-loop-a
invariant-loop-a l = l.count + agree l.a-iterator.a.rest.now l.a-iterator.b.rest.now ≡ agree (set_of (kind_number l.fn.kind)) l.fn.line
