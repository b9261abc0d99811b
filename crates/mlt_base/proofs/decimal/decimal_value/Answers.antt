use Rattle.std.proofs.Common.{arith}
use Rattle.mlt_base.proofs.Below.{below_ok, below_err}
use Rattle.mlt_base.proofs.Decimals.{decimal_value-is}
use Rattle.mlt_base.proofs.decimal.decimal_value.Goals as goal

pub returns-then-n : goal.returns-then-n
returns-then-n c =
    let exact = decimal_value-is c.args.whole.now c.args.fraction.now in
    below_ok _ _ _ (omega arith) (omega (arith, exact))

pub returns-else-n : goal.returns-else-n
returns-else-n c =
    let exact = decimal_value-is c.args.whole.now c.args.fraction.now in
    below_err _ _ (omega (arith, exact))
