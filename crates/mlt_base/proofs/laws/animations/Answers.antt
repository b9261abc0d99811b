use Rattle.mlt_base.proofs.AnimationForms.{animation_accepted, animation_takes}
use Rattle.mlt_base.proofs.laws.animations.Goals as goal

pub returns-clause-accepted : goal.returns-clause-accepted
returns-clause-accepted c = animation_accepted

pub returns-clause-only : goal.returns-clause-only
returns-clause-only c text keys e = let read = animation_takes text keys e in (read.is, read.rise, read.held)
