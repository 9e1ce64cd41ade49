-- Each arm puts the text of its reason.
use Rattle.fusb302.specs.declared.why.Why.TheVariants.{AutoCrcOff, AutoPreOn}
use Rattle.script.specs.Print.{reason_text}
use Rattle.script.proofs.Texts.{is_word}
use Rattle.script.proofs.print.put_reason.Goals as goal

pub returns-in-AutoCrcOff : goal.returns-in-AutoCrcOff
unfolding reason_text
returns-in-AutoCrcOff c = is_word _ AutoCrcOff c.requires c.in-AutoCrcOff.is c.put_text-in-AutoCrcOff.ensures

pub returns-in-AutoPreOn : goal.returns-in-AutoPreOn
unfolding reason_text
returns-in-AutoPreOn c = is_word _ AutoPreOn c.requires c.in-AutoPreOn.is c.put_text-in-AutoPreOn.ensures
