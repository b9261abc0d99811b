use Rattle.mlt_tree.proofs.Counts.{words_counted}
use Rattle.mlt_tree.proofs.laws.words_are_counted.Goals as goal

pub returns : goal.returns
returns c = words_counted
