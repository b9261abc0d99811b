use Rattle.std.proofs.Common.{length, arith}
use Rattle.std.proofs.lemmas.List.FromFn.{fill_by_all}
use Rattle.mlt_base.specs.Mixing.{laid_over}
use Rattle.mlt_kernel.proofs.over.over.Goals as goal

pub returns : goal.returns
returns c =
    let old = c.args.dst.now in
    fill_by_all (laid_over c.args.opacity old c.args.src.now) c.loop-from.dst (length old) 0 (omega arith) (λ k lt. c.loop-from.invariant.done k (omega arith))
