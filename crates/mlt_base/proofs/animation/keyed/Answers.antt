use Rattle.std.proofs.Common.{None, refl, ◌∙◌}
use Rattle.std.proofs.lemmas.Result.{err_from_is_err_and}
use Rattle.mlt_base.proofs.Keys.{keys_of-first, behind_fails}
use Rattle.mlt_base.proofs.animation.keyed.Goals as goal

pub returns-in_err-first-clause-value : goal.returns-in_err-first-clause-value
returns-in_err-first-clause-value c =
    let p = err_from_is_err_and c.from_residual.result c.from_residual.ensures.1 in
    rw (p.1, p.2) (keys_of-first None 0 c.args.bytes.now c.requires.some ∙ rw c.in_err-first.ensures.value refl)

pub returns-in_err-rest-clause-value : goal.returns-in_err-rest-clause-value
returns-in_err-rest-clause-value c =
    let p = err_from_is_err_and c.from_residual-in_err-rest.result c.from_residual-in_err-rest.ensures.1 in
    rw (p.1, p.2) (behind_fails c.in_err-rest.field-0.0 None 0 c.args.bytes.now c.in_ok-first.first c.in_ok-first.at c.in_ok-first.after.now c.requires.some c.in_ok-first.ensures.value c.in_err-rest.ensures)

pub returns-clause-value : goal.returns-clause-value
returns-clause-value c = keys_of-first None 0 c.args.bytes.now c.requires.some ∙ rw (c.in_ok-first.ensures.value, c.in_ok-rest.ensures) refl
