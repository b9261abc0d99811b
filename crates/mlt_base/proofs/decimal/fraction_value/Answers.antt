use Rattle.std.proofs.Common.{◌≡◌, ℕ, drop, ◌∙◌, ap, arith}
use Rattle.mlt_base.proofs.Decimals.{fraction_of, fraction_of-is}
use Rattle.mlt_base.proofs.decimal.fraction_value.Goals as goal

pub returns-clause-value : goal.returns-clause-value
returns-clause-value c =
    let start : c.loop-i.i ≡ 0 = omega arith in
    let digits = c.args.digits.now in
    c.loop-i.invariant.value ∙ ap (λ (i : ℕ). fraction_of (drop i digits)) start ∙ fraction_of-is digits
