-- No second outcome: each promise says all of what it gives.
-- Assumes nothing.
use mathlib.Core.Path.{sym, ◌∙◌}
use Rattle.text.proofs.Outcomes.{one_printing}
use Rattle.script.specs.Theorems.{OneCount, OneSetup, OneParsing, OnePrintedOutcome, OnePrintedBad, OnePrintedWhy}

pub one_count : OneCount
one_count l r s p q = p.says ∙ sym q.says

pub one_setup : OneSetup
one_setup l r s p q = p ∙ sym q

pub one_parsing : OneParsing
one_parsing e before r s a b p q = (p.says ∙ sym q.says, p.leaves ∙ sym q.leaves)

pub one_printed_outcome : OnePrintedOutcome
one_printed_outcome reply high symbols out at r s a b p q = one_printing _ out at _ r s a b p q

pub one_printed_bad : OnePrintedBad
one_printed_bad line out at r s a b p q = one_printing _ out at _ r s a b p q

pub one_printed_why : OnePrintedWhy
one_printed_why line reason out at r s a b p q = one_printing _ out at _ r s a b p q
