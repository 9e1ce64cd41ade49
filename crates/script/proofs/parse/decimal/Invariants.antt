-- Each digit passed goes to the value, and 7 of them stay below ten million.
use Rattle.script.proofs.Numbers.{Reading}
use Rattle.script.proofs.parse.decimal.Given as goal

abbrev pub invariant-loop-c : goal.invariant-loop-c
invariant-loop-c l = Reading l.s l.v l.c-index
