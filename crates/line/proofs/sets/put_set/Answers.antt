use mathlib.Core.Path.{◌∙◌}
use Rattle.line.proofs.Numbers.{kind_below}
use Rattle.line.proofs.Starts.{set_length}
use Rattle.line.proofs.Stores.{front_put}
use Rattle.line.proofs.sets.put_set.Goals as goal

pub returns : goal.returns
returns c = front_put _ _ _ _ (set_length _ (kind_below c.args.kind)) c.requires (c.copy_from_slice.ensures.after ∙ c.set_of.ensures)
