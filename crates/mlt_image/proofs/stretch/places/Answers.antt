use Rattle.std.proofs.Common.{length, arith}
use Rattle.std.proofs.lemmas.List.FromFn.{fill_by_all}
use Rattle.mlt_base.specs.Fitting.{along}
use Rattle.mlt_image.proofs.stretch.places.Goals as goal

pub returns : goal.returns
returns c =
    fill_by_all (along c.args.pixels (length c.args.out.now)) c.loop-at.out (length c.args.out.now) 0 (omega arith) (λ k lt. c.loop-at.invariant k (omega arith))
