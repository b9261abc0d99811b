use Rattle.std.proofs.Common.{ℕ, ◌/◌, length, arith}
use Rattle.mlt_vfilter.proofs.Turned.{rows_done, rows_left, rows_turned}
use Rattle.mlt_vfilter.proofs.mirror.turn_rows.Goals as goal

pub loop-y-preserved : goal.loop-y-preserved
loop-y-preserved c =
    let w = c.args.row_bytes in let old = c.args.picture.now in let rows : ℕ = length old / w in
    let so_far = c.loop-y.invariant in let is = c.exchange_rows.ensures in
    record {
      done = rows_done w rows c.loop-y.y old c.loop-y.picture c.exchange_rows.new.picture (omega arith) is.upper is.lower is.before is.between is.behind so_far.done so_far.left;
      left = rows_left w rows c.loop-y.y old c.loop-y.picture c.exchange_rows.new.picture (omega arith) is.upper is.lower is.before is.between is.behind so_far.done so_far.left;
    }

pub returns : goal.returns
returns c = rows_turned c.args.row_bytes (length c.args.picture.now / c.args.row_bytes) c.loop-y.y c.args.picture.now c.loop-y.picture (omega arith) c.loop-y.invariant.done c.loop-y.invariant.left
