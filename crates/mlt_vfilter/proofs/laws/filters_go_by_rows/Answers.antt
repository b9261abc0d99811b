use Rattle.mlt_vfilter.proofs.RowByRow.{rows_of_picture}
use Rattle.mlt_vfilter.proofs.laws.filters_go_by_rows.Goals as goal

pub returns : goal.returns
returns c = rows_of_picture
