use Rattle.std.proofs.Common.{length, ◌/◌, arith}
use Rattle.mlt_image.proofs.Packing.{over_black_is}
use Rattle.mlt_image.proofs.black.pack_rgb24.Goals as goal

pub returns : goal.returns
returns c =
    over_black_is (length c.args.src.now / 4) c.args.src.now c.loop-from.dst (omega arith) (omega arith) (λ k lt. c.loop-from.invariant.done k (omega arith))
