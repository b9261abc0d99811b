use Rattle.std.proofs.Common.{◌*◌, arith}
use Rattle.mlt_base.specs.Fitting.{inset}
use Rattle.mlt_image.specs.Kept.{stretched_row}
use Rattle.mlt_image.proofs.Parts.{bordered}
use Rattle.mlt_image.proofs.RowsKept.{tabled}
use Rattle.mlt_image.proofs.frame.stretch_row.Goals as goal

pub returns-clause-row : goal.returns-clause-row
returns-clause-row c =
    let frame = c.args.frame.now in let source = c.args.src.now in
    let stretched = stretched_row source.pixels source.width source.height c.args.columns.now c.args.place in
    let row = rw (c.pixels.ensures.value, c.width.ensures.value, c.height.ensures.value) at c.stretch.ensures.row in
    bordered (inset frame.width frame.wide * 4) (frame.wide * 4) stretched c.clear.new.bytes c.stretch.new.out c.clear-2.new.bytes (omega arith) (omega arith)
    c.clear.ensures (λ k lt. tabled stretched _ k c.stretch.new.out row (omega arith)) c.clear-2.ensures
