use Rattle.mlt_base.proofs.ProfileForms.{profile_named, profile_spelled, profile_takes}
use Rattle.mlt_base.proofs.laws.profiles.Goals as goal

pub returns-clause-named : goal.returns-clause-named
returns-clause-named c = profile_named

pub returns-clause-spelled : goal.returns-clause-spelled
returns-clause-spelled c = profile_spelled

pub returns-clause-only : goal.returns-clause-only
returns-clause-only c = profile_takes
