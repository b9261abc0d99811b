use Rattle.std.proofs.lemmas.Result.{err_from_is_err_and}
use Rattle.melt_build.specs.State.{state_view}
use Rattle.melt_build.proofs.Shown.{tells_composed, composed_fails, seal_fails, seal_goes}
use Rattle.melt_build.proofs.show.show_of.Goals as goal

pub returns-in_err-state-clause-goes : goal.returns-in_err-state-clause-goes
returns-in_err-state-clause-goes g c =
    let a = g.H.Host.state c.args.host.now in let b = g.H.Host.state c.composed.new.host in
    let p = err_from_is_err_and c.from_residual.result c.from_residual.ensures.1 in
    rw (p.1, p.2) (λ files tells. composed_fails files c.args.count c.args.groups.now c.in_err-state.field-0.0 a b (c.in_err-state.ensures.goes files (tells_composed files c.args.count c.args.groups.now a tells)))

pub returns-in_err-seal-clause-goes : goal.returns-in_err-seal-clause-goes
returns-in_err-seal-clause-goes g c =
    let a = g.H.Host.state c.args.host.now in let b = g.H.Host.state c.composed.new.host in
    let p = err_from_is_err_and c.from_residual-in_err-seal.result c.from_residual-in_err-seal.ensures.1 in
    rw (p.1, p.2) (λ files tells. seal_fails files c.args.count c.args.groups.now (state_view c.in_ok-state.state) a b (c.in_ok-state.ensures.goes files (tells_composed files c.args.count c.args.groups.now a tells)) c.in_err-seal.field-0.0 c.in_err-seal.ensures.show)

pub returns-clause-goes : goal.returns-clause-goes
returns-clause-goes g c = λ files tells.
    let a = g.H.Host.state c.args.host.now in let b = g.H.Host.state c.composed.new.host in
    seal_goes files c.args.count c.args.groups.now (state_view c.in_ok-state.state) a b (c.in_ok-state.ensures.goes files (tells_composed files c.args.count c.args.groups.now a tells)) _ c.in_ok-seal.ensures.show
