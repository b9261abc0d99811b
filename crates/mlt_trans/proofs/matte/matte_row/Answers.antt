use Rattle.std.proofs.Common.{length, arith}
use Rattle.std.proofs.lemmas.List.FromFn.{fill_by_all}
use Rattle.mlt_tree.specs.Merges.{matte}
use Rattle.mlt_trans.proofs.matte.matte_row.Goals as goal

pub returns : goal.returns
returns c =
    let old = c.args.row.now in
    fill_by_all (matte old c.args.other.now) c.loop-p.row (length old) 0 (omega arith) (λ k lt. c.loop-p.invariant.done k (omega arith) (omega arith))
