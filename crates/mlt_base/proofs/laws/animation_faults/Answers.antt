use Rattle.mlt_base.proofs.AnimationFaults.{law_no_value, law_large_animation, law_order, law_smooth}
use Rattle.mlt_base.proofs.AnimationPlaces.{law_bad_value, law_bad_keys}
use Rattle.mlt_base.proofs.laws.animation_faults.Goals as goal

pub returns-clause-empty : goal.returns-clause-empty
returns-clause-empty c = law_no_value

pub returns-clause-bad_value : goal.returns-clause-bad_value
returns-clause-bad_value c = law_bad_value

pub returns-clause-bad_digit : goal.returns-clause-bad_digit
returns-clause-bad_digit c = law_bad_keys

pub returns-clause-too_large : goal.returns-clause-too_large
returns-clause-too_large c = law_large_animation

pub returns-clause-order : goal.returns-clause-order
returns-clause-order c = law_order

pub returns-clause-smooth : goal.returns-clause-smooth
returns-clause-smooth c = law_smooth
