use Rattle.std.proofs.Common.{ap, ◌∙◌, arith}
use lib.Lanes.{put_chunk}
use Rattle.mlt_kernel.proofs.Digits.{digits_are}
use Rattle.mlt_kernel.proofs.Writes.{four_is}
use Rattle.mlt_kernel.proofs.pixel.put_word.Goals as goal

pub returns : goal.returns
returns c =
    ap (λ ys. put_chunk c.args.at c.args.xs.now ys) (digits_are c.args.word c.ranges.word.fits) ∙ four_is c.args.xs.now c.args.at _ _ _ _ (omega arith)
