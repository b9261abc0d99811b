use Rattle.std.proofs.Common.{Ok, refl, ap, sym, ◌∙◌, subst}
use Rattle.std.proofs.lemmas.Result.{err_from_is_err_and}
use Rattle.mlt_base.specs.ProfileView.{measures_of}
use Rattle.mlt_tree.specs.Composing.{no_words, effect}
use Rattle.mlt_tree.specs.Loading.{through}
use Rattle.melt_build.specs.declared.fault.BuildFault.TheVariants.{Refused}
use Rattle.melt_build.specs.Loads.{TellsFiles, StepFails, Goes}
use Rattle.melt_build.specs.State.{state_view}
use Rattle.melt_build.proofs.Going.{asks_none}
use Rattle.melt_build.proofs.Looked.{composed_refused, composed_profiled}
use Rattle.melt_build.proofs.composition.composed.Goals as goal

pub returns-in_err-profile-clause-goes : goal.returns-in_err-profile-clause-goes
returns-in_err-profile-clause-goes g c =
    let a = g.H.Host.state c.args.host.now in
    let p = err_from_is_err_and c.from_residual.result c.from_residual.ensures.1 in
    rw (p.1, p.2) (λ files tells. subst (λ step. StepFails (Refused c.in_err-profile.field-0.0) step a a) (sym (composed_refused files c.args.count c.args.groups.now c.in_err-profile.field-0.0 c.in_err-profile.ensures)) (refl, asks_none a a refl))

pub returns-in-Ok-clause-goes : goal.returns-in-Ok-clause-goes
returns-in-Ok-clause-goes g c = λ files tells.
    let a = g.H.Host.state c.args.host.now in let b = g.H.Host.state c.effects.new.host in
    let gs = c.args.groups.now in
    let is = composed_profiled files c.args.count gs (measures_of c.in_ok-profile.profile) c.in_ok-profile.ensures ∙ ap (λ s. through (effect files no_words) s gs) (sym c.in_ok-state.ensures.value) in
    subst (λ step. Goes (λ done. state_view c.effects.new.self) (Ok c.in-Ok.field-0) step a b) (sym is) (c.in-Ok.ensures.goes files (subst (λ step. TellsFiles files step a) is tells))

pub returns-in-Err-clause-goes : goal.returns-in-Err-clause-goes
returns-in-Err-clause-goes g c = λ files tells.
    let a = g.H.Host.state c.args.host.now in let b = g.H.Host.state c.effects.new.host in
    let gs = c.args.groups.now in
    let is = composed_profiled files c.args.count gs (measures_of c.in_ok-profile.profile) c.in_ok-profile.ensures ∙ ap (λ s. through (effect files no_words) s gs) (sym c.in_ok-state.ensures.value) in
    subst (λ step. StepFails c.in-Err.fault step a b) (sym is) (c.in-Err.ensures.goes files (subst (λ step. TellsFiles files step a) is tells))
