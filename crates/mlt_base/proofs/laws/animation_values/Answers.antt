use Rattle.mlt_base.proofs.Values.{value_before, value_between, value_behind}
use Rattle.mlt_base.proofs.laws.animation_values.Goals as goal

pub returns-clause-before : goal.returns-clause-before
returns-clause-before c = value_before

pub returns-clause-between : goal.returns-clause-between
returns-clause-between c = value_between

pub returns-clause-behind : goal.returns-clause-behind
returns-clause-behind c = value_behind
