use Rattle.mlt_base.specs.Stop.{Texts}
use Rattle.mlt_base.specs.Decimal.{decimal}
use Rattle.mlt_base.specs.Grammar.{IsDecimal}
use Rattle.mlt_base.proofs.Stops.{IsNone, law_empty, law_bad, law_large}
use Rattle.mlt_base.proofs.DecimalStops.{decimal_told, decimal_missing, decimal_sized, decimal_unfit}
use Rattle.mlt_base.proofs.laws.decimal_faults.Goals as goal

pub returns-clause-empty : goal.returns-clause-empty
returns-clause-empty c = law_empty IsNone (Texts IsDecimal) (decimal 0) (decimal_told 0) (decimal_missing 0) (decimal_sized 0)

pub returns-clause-bad_digit : goal.returns-clause-bad_digit
returns-clause-bad_digit c = law_bad IsNone (Texts IsDecimal) (decimal 0) (decimal_told 0) (decimal_missing 0) (decimal_sized 0)

pub returns-clause-too_large : goal.returns-clause-too_large
returns-clause-too_large c text e =
    let (n, is) = law_large IsNone (Texts IsDecimal) (decimal 0) (decimal_told 0) (decimal_missing 0) (decimal_sized 0) text e in
    (n, is, decimal_unfit 0 text n is e)
