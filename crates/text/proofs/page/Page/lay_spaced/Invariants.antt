-- What was put and what is still to be put are the whole run, three characters to a symbol.
use Rattle.text.proofs.Pages.{RunOn}
use Rattle.text.proofs.page.Page.lay_spaced.Given as goal

abbrev pub invariant-loop-octet : goal.invariant-loop-octet
invariant-loop-octet l = RunOn l.initial.self l.octets l.self l.octet-index
