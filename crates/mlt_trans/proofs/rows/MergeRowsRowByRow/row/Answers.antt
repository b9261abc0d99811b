use Rattle.std.proofs.Common.{arith}
use Rattle.std.specs.Option.{option_copied}
use Rattle.mlt_trans.proofs.Merged.{row_left}
use Rattle.mlt_trans.proofs.rows.MergeRowsRowByRow.row.Goals as goal

pub returns-else-number-self-clause-row : goal.returns-else-number-self-clause-row
returns-else-number-self-clause-row c =
    let m = c.self.inside in
    rw (← c.self.view_is) (row_left m.step.now (option_copied m.map) m.width m.height m.b.now c.args.number c.args.row.now (omega arith))
