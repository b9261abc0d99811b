use Rattle.mlt_trans.proofs.Merged.{rows_merged}
use Rattle.mlt_trans.proofs.laws.merges_go_by_rows.Goals as goal

pub returns : goal.returns
returns c = rows_merged
