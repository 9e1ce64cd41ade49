-- Without room nothing is done; else the line is parsed, done and printed.
use mathlib.Core.Path.{sym, ◌∙◌}
use Rattle.turn.proofs.Turning.{tells_none, tells_bad, tells_line}
use Rattle.turn.proofs.tell.Goals as goal

pub returns-then-not-has_room-clause-takes : goal.returns-then-not-has_room-clause-takes
returns-then-not-has_room-clause-takes g c = tells_none _ _ _ _ _ _ (sym c.has_room.ensures ∙ c.if-not-has_room.true)

pub returns-in_default-clause-takes : goal.returns-in_default-clause-takes
returns-in_default-clause-takes g c =
    let room = sym c.has_room.ensures ∙ c.if-not-has_room.false in
    tells_bad _ _ _ _ _ _ _ _ _ room room c.requires c.in_default.ensures c.print_bad.ensures.prints

pub returns-clause-takes : goal.returns-clause-takes
returns-clause-takes g c =
    let a = c.args in
    (tells_line _ _ a.setup a.line.now _ _ _ _ _ _ (sym c.has_room.ensures ∙ c.if-not-has_room.false) c.in-Some.ensures c.act.ensures.acts)
