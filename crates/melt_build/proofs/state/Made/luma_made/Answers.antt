use Rattle.std.proofs.Common.{◌≡◌, Ok, refl, sym, ap, ◌∙◌, subst}
use Rattle.std.proofs.lemmas.Result.{err_from_is_err_and}
use Rattle.mlt_tree.specs.Merging.{map_made}
use Rattle.mlt_tree.specs.Props.{file_name}
use Rattle.mlt_tree.specs.declared.services.TheConstants as row
use Rattle.melt_build.specs.Properties.{props_in}
use Rattle.melt_build.specs.Loads.{names_of, Asks, TellsFiles, StepFails}
use Rattle.melt_build.specs.Plant.{merging_view}
use Rattle.melt_build.specs.State.{made_view}
use Rattle.melt_build.proofs.Merged.{softness_fails, tells_map, map_fails, luma_goes}
use Rattle.melt_build.proofs.state.Made.luma_made.Goals as goal

pub returns-in_err-softness-clause-goes : goal.returns-in_err-softness-clause-goes
returns-in_err-softness-clause-goes g c =
    let a = g.H.Host.state c.args.host.now in
    let ps = props_in c.args.given.now in
    let p = err_from_is_err_and c.from_residual.result c.from_residual.ensures.1 in
    rw (p.1, p.2) (λ files s group made place tells.
    softness_fails files s group ps c.in_err-softness.field-0.0 a (sym c.share.ensures.value ∙ c.in_err-softness.was))

pub returns-in_err-map-clause-goes : goal.returns-in_err-map-clause-goes
returns-in_err-map-clause-goes g c =
    let a = g.H.Host.state c.args.host.now in let b = g.H.Host.state c.map_made.new.host in
    let ps = props_in c.args.given.now in let old = made_view c.args.self.now in
    let softness = c.in_ok-softness.softness in
    let p = err_from_is_err_and c.from_residual-in_err-map.result c.from_residual-in_err-map.ensures.1 in
    rw (p.1, p.2) (λ files s group made place tells.
    let asks = sym c.share.ensures.value ∙ c.in_ok-softness.was in
    let read = ap (λ m. map_made files m group.place (file_name row.RESOURCE ps)) made ∙ ap (λ k. map_made files old k (file_name row.RESOURCE ps)) place ∙ ap (map_made files old c.args.place) (sym c.file_name.ensures) in
    map_fails files s group ps softness asks c.in_err-map.field-0.0 a b (subst (λ step. StepFails c.in_err-map.field-0.0 step a b) (sym read) (c.in_err-map.ensures.goes files (subst (λ step. TellsFiles files step a) read (tells_map files s group ps softness asks a tells)))))

pub returns-clause-goes : goal.returns-clause-goes
returns-clause-goes g c = λ files s group made place tells.
    let a = g.H.Host.state c.args.host.now in let b = g.H.Host.state c.map_made.new.host in
    let ps = props_in c.args.given.now in let old = made_view c.args.self.now in let new = made_view c.map_made.new.self in
    let softness = c.in_ok-softness.softness in let map = c.in_ok-map.map in
    let asks = sym c.share.ensures.value ∙ c.in_ok-softness.was in
    let read = ap (λ m. map_made files m group.place (file_name row.RESOURCE ps)) made ∙ ap (λ k. map_made files old k (file_name row.RESOURCE ps)) place ∙ ap (map_made files old c.args.place) (sym c.file_name.ensures) in
    luma_goes files s group ps softness asks (merging_view c.map_made.new.self) _ (new, map) a b
    (subst (λ step. (step.end ≡ Ok (new, map)) × Asks (names_of step.loads) a b) (sym read) (c.in_ok-map.ensures.goes files (subst (λ step. TellsFiles files step a) read (tells_map files s group ps softness asks a tells)))) refl
