use Rattle.mlt_base.proofs.Rising.{read_rises}
use Rattle.mlt_base.proofs.animation.Animation.read.Goals as goal

pub returns-clause-rising : goal.returns-clause-rising
returns-clause-rising c = read_rises c.args.text.now c.animation_of.result c.animation_of.ensures.value
