use Rattle.mlt_base.proofs.GeometryForms.{geometry_again, geometry_takes}
use Rattle.mlt_base.proofs.laws.geometries.Goals as goal

pub returns-clause-accepted : goal.returns-clause-accepted
returns-clause-accepted c = geometry_again

pub returns-clause-only : goal.returns-clause-only
returns-clause-only c = geometry_takes
