use Rattle.std.proofs.Common.{inl, inr}
use Rattle.mlt_base.specs.Stop.{Texts}
use Rattle.mlt_base.specs.Whole.{whole}
use Rattle.mlt_base.specs.Grammar.{IsWhole}
use Rattle.mlt_base.proofs.Stops.{law_empty, law_bad, law_large}
use Rattle.mlt_base.proofs.WholeStops.{LacksDigits, whole_told, whole_missing, whole_sized, whole_unfit}
use Rattle.mlt_base.proofs.laws.whole_faults.Goals as goal

pub returns-clause-empty : goal.returns-clause-empty
returns-clause-empty c text = law_empty LacksDigits (Texts IsWhole) whole whole_told whole_missing whole_sized text

pub returns-clause-bad_digit : goal.returns-clause-bad_digit
returns-clause-bad_digit c text at short =
    let law = law_bad LacksDigits (Texts IsWhole) whole whole_told whole_missing whole_sized text at short in (
      (λ e. let (some, stop) = law.0 e in ((λ none. some (inl none)), (λ sign. some (inr sign)), stop)),
      (λ (some, more, stop). law.1 ((λ missing. elim missing [ inl none ↦ some none | inr sign ↦ more sign ]), stop)),
    )

pub returns-clause-too_large : goal.returns-clause-too_large
returns-clause-too_large c text e =
    let (z, is) = law_large LacksDigits (Texts IsWhole) whole whole_told whole_missing whole_sized text e in
    (z, is, whole_unfit text z is e)
