use Rattle.mlt_base.proofs.WholeForms.{whole_accepted, whole_large, whole_takes}
use Rattle.mlt_base.proofs.laws.whole_numbers.Goals as goal

pub returns-clause-accepted : goal.returns-clause-accepted
returns-clause-accepted c = whole_accepted

pub returns-clause-large : goal.returns-clause-large
returns-clause-large c = whole_large

pub returns-clause-only : goal.returns-clause-only
returns-clause-only c = whole_takes
