-- No second outcome: each promise says all of what it gives.
-- Assumes nothing.
use mathlib.Core.Path.{sym, ◌∙◌}
use mathlib.Core.Bool.{cond}
use mathlib.Core.List.{[]}
use Rattle.text.specs.Theorems.{OneHex, OneOctet, OneRoom, OnePut, OnePrinting, OnePutOn, OnePrintingOn}

pub one_hex : OneHex
one_hex c r s p q = p ∙ sym q

pub one_octet : OneOctet
one_octet a b r s p q = p ∙ sym q

pub one_room : OneRoom
one_room need octets at r s p q = p ∙ sym q

pub one_put : OnePut
one_put before at t r s a b p q = (p.next ∙ sym q.next, p.stands ∙ sym q.stands)

pub one_printing : OnePrinting
one_printing fits before at t r s a b p q = one_put before at (cond fits t []) r s a b p.puts q.puts

pub one_put_on : OnePutOn
one_put_on p t q r x y =
    let same = one_put p.octets.now p.at t q.at r.at q.octets.now r.octets.now x.puts y.puts in
    record { at = same.0; octets = same.1; lent = x.same ∙ sym y.same }

pub one_printing_on : OnePrintingOn
one_printing_on fits p t q r x y =
    let same = one_printing fits p.octets.now p.at t q.at r.at q.octets.now r.octets.now x.prints y.prints in
    record { at = same.0; octets = same.1; lent = x.same ∙ sym y.same }
