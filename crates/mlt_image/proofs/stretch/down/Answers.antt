use Rattle.std.proofs.Common.{length, get_or, arith}
use Rattle.std.proofs.lemmas.List.FromFn.{fill_by_all}
use Rattle.mlt_base.specs.Fitting.{down}
use Rattle.mlt_image.proofs.stretch.down.Goals as goal

pub returns : goal.returns
returns c =
    fill_by_all (λ k. down c.args.share (get_or c.args.top.now k 0) (get_or c.args.bottom.now k 0)) c.loop-k.out (length c.args.out.now) 0 (omega arith)
    (λ k lt. c.loop-k.invariant k (omega arith))
