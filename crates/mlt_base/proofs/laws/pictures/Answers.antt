use Rattle.mlt_base.proofs.PpmForms.{ppm_accepted, ppm_takes}
use Rattle.mlt_base.proofs.laws.pictures.Goals as goal

pub returns-clause-accepted : goal.returns-clause-accepted
returns-clause-accepted c = ppm_accepted

pub returns-clause-only : goal.returns-clause-only
returns-clause-only c = ppm_takes
