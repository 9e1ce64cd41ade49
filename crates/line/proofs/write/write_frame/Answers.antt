use mathlib.Core.Path.{◌∙◌, sym}
use native.Mathlib.Omega.{arith}
use borrow.Author.Tests.{eqb-true, eqb-false}
use Rattle.std.proofs.lemmas.Result.{err_from_is_err_and}
use Rattle.line.proofs.Writing.{sop_is, carries_message, is_reset, some_alone, wrong_many, small, unknown, wrong, message_sent, alone_sent}
use Rattle.line.proofs.write.write_frame.Goals as goal

pub returns-then-symbols-lt-FRAME_ROOM : goal.returns-then-symbols-lt-FRAME_ROOM
returns-then-symbols-lt-FRAME_ROOM c = small _ _ c.if-symbols-lt-FRAME_ROOM.true

pub returns-in_err-kind : goal.returns-in_err-kind
returns-in_err-kind c =
    let p = err_from_is_err_and c.from_residual.result c.from_residual.ensures.1 in
    rw (p.1, p.2) (unknown _ _ c.if-symbols-lt-FRAME_ROOM.false c.in_err-kind.ensures)

pub returns-then-octets-lt2 : goal.returns-then-octets-lt2
returns-then-octets-lt2 c =
    let h = carries_message _ _ c.in_ok-kind.ensures _ c.in-Message.is in
    wrong _ _ c.if-symbols-lt-FRAME_ROOM.false (omega arith) (wrong_many _ _ h c.then-octets-lt2.either)

pub returns-then-not-is_empty : goal.returns-then-not-is_empty
returns-then-not-is_empty c =
    let h = is_reset _ _ c.in_ok-kind.ensures c.in-HardReset.is in
    wrong _ _ c.if-symbols-lt-FRAME_ROOM.false h.1 (some_alone _ _ h.0 (eqb-false _ _ (sym c.is_empty.ensures ∙ c.if-not-is_empty.true)))

pub returns-else-octets-gt30 : goal.returns-else-octets-gt30
returns-else-octets-gt30 c =
    let kind = c.in_ok-kind.ensures in
    let h = carries_message _ _ kind _ c.in-Message.is in
    message_sent _ _ c.if-symbols-lt-FRAME_ROOM.false (omega arith) h c.if-octets-lt2.false c.if-octets-gt30.false _ _
    (rw (sop_is _ _ kind _ c.in-Message.is) at c.put_message.ensures)

pub returns-else-not-is_empty : goal.returns-else-not-is_empty
returns-else-not-is_empty c =
    let kind = c.in_ok-kind.ensures in
    let h = is_reset _ _ kind c.in-HardReset.is in
    alone_sent _ _ c.if-symbols-lt-FRAME_ROOM.false h.1 h.0 (eqb-true _ _ (sym c.is_empty.ensures ∙ c.if-not-is_empty.false)) _ (rw kind at c.put_set.ensures)
