use Rattle.mlt_base.specs.Stop.{Texts}
use Rattle.mlt_base.specs.Time.{time}
use Rattle.mlt_base.specs.Grammar.{IsTime}
use Rattle.mlt_base.proofs.Stops.{IsNone, law_empty, law_bad, law_large}
use Rattle.mlt_base.proofs.TimeStops.{time_told, time_missing, time_sized, time_unfit}
use Rattle.mlt_base.proofs.laws.time_faults.Goals as goal

pub returns-clause-empty : goal.returns-clause-empty
returns-clause-empty c num den = law_empty IsNone (Texts IsTime) (time num den) (time_told num den) (time_missing num den) (time_sized num den)

pub returns-clause-bad_digit : goal.returns-clause-bad_digit
returns-clause-bad_digit c num den = law_bad IsNone (Texts IsTime) (time num den) (time_told num den) (time_missing num den) (time_sized num den)

pub returns-clause-too_large : goal.returns-clause-too_large
returns-clause-too_large c num den text e =
    let (form, is) = law_large IsNone (Texts IsTime) (time num den) (time_told num den) (time_missing num den) (time_sized num den) text e in
    (form, is, time_unfit num den text form is e)
