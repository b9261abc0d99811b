use Rattle.mlt_base.proofs.TimeForms.{time_accepted, time_large, time_takes}
use Rattle.mlt_base.proofs.laws.times.Goals as goal

pub returns-clause-accepted : goal.returns-clause-accepted
returns-clause-accepted c = time_accepted

pub returns-clause-large : goal.returns-clause-large
returns-clause-large c = time_large

pub returns-clause-only : goal.returns-clause-only
returns-clause-only c = time_takes
