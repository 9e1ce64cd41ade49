-- Each way out is one of the answers of `first` on what stands at the cursor.
use mathlib.Core.Path.{ap, ◌∙◌}
use native.Mathlib.Omega.{arith}
use lib.ListN.{length, length-drop}
use Rattle.std.proofs.lemmas.Result.{err_from_is_err_and}
use Rattle.line.proofs.Reading.{part_is, rest_long, set_refused, set_fits, set_alone, set_message}
use Rattle.line.proofs.read.read_frame.Goals as goal

pub returns-in_err-set : goal.returns-in_err-set
returns-in_err-set c =
    let p = err_from_is_err_and c.from_residual.result c.from_residual.ensures.1 in
    rw (p.1, p.2) (set_refused _ _ _ _ c.if-octets-lt-OCTET_ROOM.false c.rest-part.ensures.holds _ c.in_err-set.ensures)

pub read_message-requires : goal.read_message-requires
read_message-requires c =
    let rest = c.rest-part in
    let there = set_fits _ _ _ c.in_ok-set.ensures in
    let behind = ap length (part_is rest.result.now 4) ∙ length-drop 4 rest.result.now in
    let long = rest_long c.args.line.now _ c.args.cursor.at rest.ensures.holds in
    (c.if-octets-lt-OCTET_ROOM.false, omega arith)

pub overflow_add-result : goal.overflow_add-result
overflow_add-result c =
    let there = set_fits _ _ _ c.in_ok-set.ensures in
    omega (arith, there, rest_long c.args.line.now _ c.args.cursor.at c.rest-part.ensures.holds)

pub returns-in-Message : goal.returns-in-Message
returns-in-Message c =
    let rest = c.rest-part in
    set_message _ _ _ _ c.if-octets-lt-OCTET_ROOM.false rest.ensures.holds _ c.in_ok-set.ensures _ c.in-Message.is _ _
    (rw (part_is rest.result.now 4) at c.read_message.ensures)

pub returns-in-HardReset : goal.returns-in-HardReset
returns-in-HardReset c = set_alone _ _ _ _ c.if-octets-lt-OCTET_ROOM.false c.rest-part.ensures.holds _ c.in_ok-set.ensures c.in-HardReset.is
