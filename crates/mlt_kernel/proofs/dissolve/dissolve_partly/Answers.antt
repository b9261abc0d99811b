use Rattle.std.proofs.Common.{length, arith}
use Rattle.std.proofs.lemmas.List.FromFn.{fill_by_all}
use Rattle.mlt_base.specs.Mixing.{dissolved}
use Rattle.mlt_kernel.proofs.dissolve.dissolve_partly.Goals as goal

pub returns : goal.returns
returns c =
    fill_by_all (dissolved c.args.q c.args.dst.now c.args.src.now) c.loop-i.dst (length c.args.dst.now) 0 (omega arith) (λ k lt. c.loop-i.invariant.done k (omega arith))
