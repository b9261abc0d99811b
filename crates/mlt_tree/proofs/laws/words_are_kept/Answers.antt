use Rattle.mlt_tree.proofs.Kept.{words_kept}
use Rattle.mlt_tree.proofs.laws.words_are_kept.Goals as goal

pub returns : goal.returns
returns c = words_kept
