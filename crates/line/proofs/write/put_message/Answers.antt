use Rattle.line.proofs.Numbers.{sop_below}
use Rattle.line.proofs.Writing.{message_put}
use Rattle.line.proofs.write.put_message.Goals as goal

pub returns : goal.returns
returns c =
    message_put _ _ _ _ _ _ _ (sop_below c.args.kind) c.requires.0 c.requires.1
    c.put_set.ensures c.put_octets.ensures c.crc.ensures c.to_le_bytes.ensures c.put_octets-2.ensures
