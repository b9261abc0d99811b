use Rattle.mlt_tree.proofs.Allowed.{groups_sound}
use Rattle.mlt_tree.proofs.laws.groups_are_allowed.Goals as goal

pub returns : goal.returns
returns c = groups_sound
