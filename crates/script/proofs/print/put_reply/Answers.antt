-- Each arm puts the text of its reply.
use mathlib.Core.Path.{◌≡◌, ap, ◌∙◌}
use Rattle.std.specs.Prelude.{None, Some, Ok}
use Rattle.script.proofs.Texts.{is_done, is_value, is_no}
use Rattle.script.proofs.print.put_reply.Goals as goal

pub returns-in-Ok-None : goal.returns-in-Ok-None
returns-in-Ok-None c = let e : c.args.reply ≡ Ok None = c.in-Ok-None.is ∙ ap (λ x. Ok x) (rw c.in-Ok-None.is at c.in-Ok-None.field-0-is) in is_done _ c.requires e c.put_text.ensures

pub returns-in-Ok-Some : goal.returns-in-Ok-Some
returns-in-Ok-Some c = let e : c.args.reply ≡ Ok (Some c.in-Ok-Some.v) = c.in-Ok-Some.is ∙ ap (λ x. Ok x) (rw c.in-Ok-Some.is at c.in-Ok-Some.field-0-is) in is_value _ _ c.requires e c.put.ensures c.put_octet.ensures

pub returns-in-Err : goal.returns-in-Err
returns-in-Err c = is_no _ _ c.requires c.in-Err.is c.from.ensures c.put_text-in-Err.ensures c.put_decimal.ensures
