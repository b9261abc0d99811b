use Rattle.std.proofs.Common.{rules, refl}
use Rattle.std.proofs.lemmas.Result.{err_from_is_err_and}
use Rattle.melt_build.specs.Plant.{merging_view}
use Rattle.melt_build.specs.State.{state_view}
use Rattle.melt_build.proofs.Merged.{tells_mixed, mixed_fails, merged_fails, merged_goes}
use Rattle.melt_build.proofs.state.State.merge_mixed.Goals as goal

pub returns-in_err-spec-clause-goes : goal.returns-in_err-spec-clause-goes
returns-in_err-spec-clause-goes g c =
    let a = g.H.Host.state c.args.host.now in let b = g.H.Host.state c.merge_made.new.host in
    let s = state_view c.args.self.now in let group = c.args.group.now in let service = c.args.service in
    let p = err_from_is_err_and c.from_residual.result c.from_residual.ensures.1 in
    rw (p.1, p.2) (λ files tells.
    mixed_fails files s group service _ c.in_err-spec.field-0.0 a b
    (c.in_err-spec.ensures.goes files s group refl refl refl (tells_mixed files s group service _ a tells (search rules))) (search rules))

pub returns-in_err-mix_merged-clause-goes : goal.returns-in_err-mix_merged-clause-goes
returns-in_err-mix_merged-clause-goes g c =
    let a = g.H.Host.state c.args.host.now in let b = g.H.Host.state c.merge_made.new.host in
    let s = state_view c.args.self.now in let group = c.args.group.now in let service = c.args.service in
    let merging = merging_view c.merge_made.new.self c.in_ok-spec.spec in
    let p = err_from_is_err_and c.from_residual-in_err-mix_merged.result c.from_residual-in_err-mix_merged.ensures.1 in
    rw (p.1, p.2) (λ files tells.
    merged_fails files s group service _ merging c.in_err-mix_merged.field-0.0 a b
    (c.in_ok-spec.ensures.goes files s group refl refl refl (tells_mixed files s group service _ a tells (search rules)))
    c.in_err-mix_merged.ensures.value (search rules))

pub returns-clause-goes : goal.returns-clause-goes
returns-clause-goes g c = λ files tells.
    let a = g.H.Host.state c.args.host.now in let b = g.H.Host.state c.merge_made.new.host in
    let s = state_view c.args.self.now in let group = c.args.group.now in let service = c.args.service in
    let merging = merging_view c.merge_made.new.self c.in_ok-spec.spec in
    merged_goes files s group service (λ done. state_view c.mix_merged.new.self) c.in_ok-mix_merged.field-0 _ merging a b
    (c.in_ok-spec.ensures.goes files s group refl refl refl (tells_mixed files s group service _ a tells (search rules)))
    c.in_ok-mix_merged.ensures.value (search rules)
