use Rattle.mlt_trans.proofs.Rowwise.{own_table}
use Rattle.mlt_trans.proofs.rows.MergeRows.merge.Goals as goal

pub returns-in-Mix-clause-row : goal.returns-in-Mix-clause-row
returns-in-Mix-clause-row c = let is = c.in-Mix.is in rw (← c.self.view_is, is) (own_table c.args.row.now)

pub returns-in-Sum-clause-row : goal.returns-in-Sum-clause-row
returns-in-Sum-clause-row c = let is = c.in-Sum.is in rw (← c.self.view_is, is) (own_table c.args.row.now)
