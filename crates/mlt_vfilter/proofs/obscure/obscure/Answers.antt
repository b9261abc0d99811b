use Rattle.std.proofs.Common.{◌*◌, ◌∙◌, arith}
use Rattle.mlt_vfilter.proofs.Squares.{squares_done, squares_picture}
use Rattle.mlt_vfilter.proofs.obscure.obscure.Goals as goal

pub loop-y-preserved : goal.loop-y-preserved
loop-y-preserved c =
    let so_far = c.loop-y.invariant in let is = c.obscure_row.ensures in
    record {
      done = squares_done c.args.size (c.args.width * 4) c.loop-y.y c.args.picture.now c.loop-y.picture c.obscure_row.new.picture c.requires.size so_far.done so_far.left is.first is.next is.before;
      left = λ j le. is.behind j (omega arith) ∙ so_far.left j (omega arith);
    }

pub returns : goal.returns
returns c =
    squares_picture c.args.size c.args.width c.args.picture.now c.loop-y.picture (omega arith) c.requires.rows (omega arith)
    (λ n i row lt. c.loop-y.invariant.done n i (omega arith) lt)
