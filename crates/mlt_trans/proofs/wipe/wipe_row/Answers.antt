use Rattle.std.proofs.Common.{length, Some, arith}
use Rattle.std.proofs.lemmas.List.FromFn.{fill_by_all}
use Rattle.mlt_tree.specs.Merges.{luma}
use Rattle.mlt_trans.proofs.wipe.wipe_row.Goals as goal

pub returns : goal.returns
returns c =
    let old = c.args.row.now in
    fill_by_all (luma (Some c.args.map.now) c.args.shares.now.softness c.args.shares.now.q old c.args.other.now) c.loop-from.row (length old) 0 (omega arith) (λ k lt. c.loop-from.invariant.done k (omega arith))
