use Rattle.mlt_base.proofs.DecimalForms.{decimal_accepted, decimal_large, decimal_takes}
use Rattle.mlt_base.proofs.laws.decimals.Goals as goal

pub returns-clause-accepted : goal.returns-clause-accepted
returns-clause-accepted c = decimal_accepted

pub returns-clause-large : goal.returns-clause-large
returns-clause-large c = decimal_large

pub returns-clause-only : goal.returns-clause-only
returns-clause-only c = decimal_takes
