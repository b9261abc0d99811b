use Rattle.std.proofs.Common.{refl}
use Rattle.mlt_base.specs.Profile.{profile, within}
use Rattle.mlt_base.proofs.laws.profile_table.Goals as goal

pub returns-clause-pal : goal.returns-clause-pal
unfolding profile within
returns-clause-pal c = refl

pub returns-clause-ntsc : goal.returns-clause-ntsc
unfolding profile within
returns-clause-ntsc c = refl

pub returns-clause-rows_720 : goal.returns-clause-rows_720
unfolding profile within
returns-clause-rows_720 c = refl

pub returns-clause-rows_1080 : goal.returns-clause-rows_1080
unfolding profile within
returns-clause-rows_1080 c = refl
