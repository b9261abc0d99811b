use Rattle.std.proofs.Common.{◌*◌, ◌/◌, length, sym, ◌∙◌, arith}
use Rattle.mlt_vfilter.proofs.RowByRow.{picture_of_rows}
use Rattle.mlt_vfilter.proofs.step.apply_from.Goals as goal

pub returns-then-goes_by_rows : goal.returns-then-goes_by_rows
returns-then-goes_by_rows g c =
    let old = c.args.from.now in let width = c.args.width in
    picture_of_rows c.args.step.now width (length old / (width * 4)) old c.requires.range (sym c.goes_by_rows.ensures ∙ c.if-goes_by_rows.true) (omega arith) c.run_from.new.picture (omega arith) (omega arith) c.run_from.ensures
