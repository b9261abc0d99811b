use Rattle.std.proofs.Common.{◌*◌, ◌/◌, length, sym, ◌∙◌, arith}
use Rattle.mlt_vfilter.proofs.EachPlace.{turned_rows_are}
use Rattle.mlt_vfilter.proofs.RowByRow.{picture_of_rows, picture_turned}
use Rattle.mlt_vfilter.proofs.step.apply.Goals as goal

pub returns-then-goes_by_rows : goal.returns-then-goes_by_rows
returns-then-goes_by_rows g c =
    let old = c.args.picture.now in let width = c.args.width in
    picture_of_rows c.args.step.now width (length old / (width * 4)) old c.requires.range (sym c.goes_by_rows.ensures ∙ c.if-goes_by_rows.true) (omega arith) c.run_rows.new.picture (omega arith) (omega arith) c.run_rows.ensures

pub returns-in_default : goal.returns-in_default
returns-in_default g c =
    let old = c.args.picture.now in let width = c.args.width in let new = c.turn_rows.new.picture in
    picture_turned c.args.step.now width old new (sym c.goes_by_rows.ensures ∙ c.if-goes_by_rows.false) c.in_default.not-Obscure
    (turned_rows_are width old new (omega arith) (omega arith) (omega arith) c.turn_rows.ensures)
