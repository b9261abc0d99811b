use Rattle.std.proofs.Math.Logic.{∥∥₁_elim}
use Rattle.mlt_vfilter.proofs.Ranges.{one_range}
use Rattle.mlt_vfilter.proofs.rows.FilterRowsRowByRow.row.Goals as goal

pub filter_row-requires-clause-range : goal.filter_row-requires-clause-range
filter_row-requires-clause-range c = ∥∥₁_elim c.args.self.now.range (one_range c.args.self.now.step.now) (λ range. range)
