use Rattle.mlt_tree.proofs.Allowed.{groups_sound}
use Rattle.melt_build.proofs.tests.read.Goals as goal

pub returns-in-Ok : goal.returns-in-Ok
returns-in-Ok c = groups_sound _ c.in-Ok.list c.in-Ok.ensures
