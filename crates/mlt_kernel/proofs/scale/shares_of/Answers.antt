use Rattle.std.proofs.Common.{arith}
use Rattle.std.proofs.lemmas.Simd.{length-replicate, get_or-replicate}
use Rattle.mlt_kernel.proofs.scale.shares_of.Goals as goal

pub loop-p-init : goal.loop-p-init
loop-p-init c =
    record {
      long = length-replicate 256 c.args.level;
      done = λ k lt. absurd (omega arith);
      left = λ k le lt. get_or-replicate 256 k c.args.level 0 lt;
    }
