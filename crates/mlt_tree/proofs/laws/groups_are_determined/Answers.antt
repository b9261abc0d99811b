use Rattle.mlt_tree.proofs.Determined.{groups_determined}
use Rattle.mlt_tree.proofs.laws.groups_are_determined.Goals as goal

pub returns : goal.returns
returns c = groups_determined
