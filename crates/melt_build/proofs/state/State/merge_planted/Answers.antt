use Rattle.std.proofs.Common.{rules, refl, sym}
use Rattle.std.proofs.lemmas.Result.{err_from_is_err_and}
use Rattle.melt_build.specs.Plant.{crossing_view, merging_view}
use Rattle.melt_build.specs.State.{state_view}
use Rattle.melt_build.proofs.Merged.{tracks_fail, tells_planted, planted_fails, crossed_fails, crossed_goes}
use Rattle.melt_build.proofs.state.State.merge_planted.Goals as goal

pub returns-in_err-tracks-clause-goes : goal.returns-in_err-tracks-clause-goes
returns-in_err-tracks-clause-goes g c =
    let a = g.H.Host.state c.args.host.now in
    let s = state_view c.args.self.now in let group = c.args.group.now in let service = c.args.service in
    let p = err_from_is_err_and c.from_residual.result c.from_residual.ensures.1 in
    rw (p.1, p.2) (λ files tells.
    tracks_fail files s group service _ c.in_err-tracks.field-0.0 a (c.in_err-tracks.ensures.value s refl (sym c.current-current.ensures)) (search rules))

pub returns-in_err-spec-clause-goes : goal.returns-in_err-spec-clause-goes
returns-in_err-spec-clause-goes g c =
    let a = g.H.Host.state c.args.host.now in let b = g.H.Host.state c.merge_made.new.host in
    let s = state_view c.args.self.now in let group = c.args.group.now in let service = c.args.service in
    let tracks = crossing_view c.in_ok-tracks.tracks in
    let asks = c.in_ok-tracks.ensures.value s refl (sym c.current-current.ensures) in
    let p = err_from_is_err_and c.from_residual-in_err-spec.result c.from_residual-in_err-spec.ensures.1 in
    rw (p.1, p.2) (λ files tells.
    planted_fails files s group service _ tracks c.in_err-spec.field-0.0 a b asks
    (c.in_err-spec.ensures.goes files s group refl refl refl (tells_planted files s group service _ tracks a asks tells (search rules))) (search rules))

pub returns-in_err-crossed-clause-goes : goal.returns-in_err-crossed-clause-goes
returns-in_err-crossed-clause-goes g c =
    let a = g.H.Host.state c.args.host.now in let b = g.H.Host.state c.merge_made.new.host in
    let s = state_view c.args.self.now in let group = c.args.group.now in let service = c.args.service in
    let tracks = crossing_view c.in_ok-tracks.tracks in let merging = merging_view c.merge_made.new.self c.in_ok-spec.spec in
    let asks = c.in_ok-tracks.ensures.value s refl (sym c.current-current.ensures) in
    let p = err_from_is_err_and c.from_residual-in_err-crossed.result c.from_residual-in_err-crossed.ensures.1 in
    rw (p.1, p.2) (λ files tells.
    crossed_fails files s group service _ tracks merging c.in_err-crossed.field-0.0 a b asks
    (c.in_ok-spec.ensures.goes files s group refl refl refl (tells_planted files s group service _ tracks a asks tells (search rules)))
    c.in_err-crossed.ensures.value (search rules))

pub returns-clause-goes : goal.returns-clause-goes
returns-clause-goes g c = λ files tells.
    let a = g.H.Host.state c.args.host.now in let b = g.H.Host.state c.merge_made.new.host in
    let s = state_view c.args.self.now in let group = c.args.group.now in let service = c.args.service in
    let tracks = crossing_view c.in_ok-tracks.tracks in let merging = merging_view c.merge_made.new.self c.in_ok-spec.spec in
    let asks = c.in_ok-tracks.ensures.value s refl (sym c.current-current.ensures) in
    crossed_goes files s group service (λ done. state_view c.crossed.new.self) c.in_ok-crossed.field-0 _ tracks merging a b asks
    (c.in_ok-spec.ensures.goes files s group refl refl refl (tells_planted files s group service _ tracks a asks tells (search rules)))
    c.in_ok-crossed.ensures.value (search rules)
