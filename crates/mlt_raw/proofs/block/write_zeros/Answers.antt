use Rattle.std.proofs.Common.{◌∙◌, ◌<◌, rules, arith}
use Rattle.mlt_raw.proofs.Zeros.{next_written}
use Rattle.mlt_raw.proofs.block.write_zeros.Goals as goal

pub loop-index-preserved : goal.loop-index-preserved
loop-index-preserved c =
    let so_far = c.loop-index.invariant in let below : c.loop-index.index < c.args.size = search rules in
    (c.write.ensures.0 ∙ so_far.0, omega (arith, below), c.write.ensures.1 ∙ next_written c.args.size c.loop-index.index 0 c.loop-index.cells.slots below so_far.2)
