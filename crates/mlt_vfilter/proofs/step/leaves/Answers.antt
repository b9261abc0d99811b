use Rattle.std.proofs.Common.{sym, ◌∙◌, arith}
use Rattle.mlt_vfilter.proofs.Neutral.{left_as_is}
use Rattle.mlt_vfilter.proofs.step.leaves.Goals as goal

pub returns-clause-same : goal.returns-clause-same
returns-clause-same c =
    λ leaves. left_as_is c.args.step.now c.args._width c.args._picture.now (λ k. omega (arith, c.type_inv._picture k)) (sym c.is_neutral.ensures ∙ leaves)
