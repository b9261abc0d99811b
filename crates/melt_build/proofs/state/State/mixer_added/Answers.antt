use Rattle.std.proofs.Common.{sym, ◌∙◌, subst}
use Rattle.std.proofs.lemmas.Result.{err_from_is_err_and}
use Rattle.melt_build.specs.Loads.{TellsFiles, Goes}
use Rattle.melt_build.specs.State.{state_view}
use Rattle.melt_build.proofs.Merged.{mixer_unknown, mixer_known}
use Rattle.melt_build.proofs.state.State.mixer_added.Goals as goal

pub returns-in_err-service-clause-goes : goal.returns-in_err-service-clause-goes
returns-in_err-service-clause-goes g c =
    let a = g.H.Host.state c.args.host.now in
    let s = state_view c.args.self.now in let group = c.args.group.now in
    let p = err_from_is_err_and c.from_residual.result c.from_residual.ensures.1 in
    rw (p.1, p.2) (λ files tells. mixer_unknown files s group c.in_err-service.field-0.0 a (sym c.merge_of.ensures ∙ c.in_err-service.was))

pub returns-clause-goes : goal.returns-clause-goes
returns-clause-goes g c = λ files tells.
    let a = g.H.Host.state c.args.host.now in let b = g.H.Host.state c.merge_mixed.new.host in
    let s = state_view c.args.self.now in let group = c.args.group.now in
    let is = mixer_known files s group c.in_ok-service.service (sym c.merge_of.ensures ∙ c.in_ok-service.was) in
    subst (λ step. Goes (λ done. state_view c.merge_mixed.new.self) c.merge_mixed.result step a b) (sym is) (c.merge_mixed.ensures.goes files (subst (λ step. TellsFiles files step a) is tells))
