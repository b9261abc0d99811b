use Rattle.std.proofs.Common.{◌≡◌, None, Some, Ok, refl, ap, sym, ◌∙◌, subst}
use Rattle.std.specs.Option.{option_copied}
use Rattle.std.proofs.lemmas.Result.{err_from_is_err_and}
use Rattle.mlt_tree.specs.Loaded.{picture_loaded}
use Rattle.mlt_tree.specs.Merging.{map_made, with_map}
use Rattle.mlt_tree.specs.Show.{Drawn}
use Rattle.melt_build.specs.State.{FitsUnits, made_view}
use Rattle.melt_build.proofs.Filed.{map_step, no_map, map_is, map_gives}
use Rattle.melt_build.specs.Loads.{names_of, Asks}
use Rattle.melt_build.proofs.Going.{asks_none}
use Rattle.melt_build.proofs.Levels.{more_behind}
use Rattle.melt_build.proofs.Sourced.{sources_fit, more_sources, map_there}
use Rattle.melt_build.proofs.Steps.{read_tells, read_fails, ends_well, memory_then}
use Rattle.melt_build.proofs.state.Made.map_made.Goals as goal

pub returns-in-None-clause-goes : goal.returns-in-None-clause-goes
returns-in-None-clause-goes g c = λ files tells.
    let a = g.H.Host.state c.args.host.now in
    let made = made_view c.args.self.now in let place = c.args.place in
    let is = ap (λ o. map_made files made place (option_copied o)) c.in-None.is ∙ no_map files made place in
    subst (λ step. (step.end ≡ Ok (made, None)) × Asks (names_of step.loads) a a) (sym is) (refl, asks_none a a refl)

pub returns-in_err-picture-in-Some-clause-goes : goal.returns-in_err-picture-in-Some-clause-goes
returns-in_err-picture-in-Some-clause-goes g c =
    let a = g.H.Host.state c.args.host.now in let b = g.H.Host.state c.picture_loaded.new.host in
    let made = made_view c.args.self.now in let place = c.args.place in let name = c.in-Some.name.now in
    let p = err_from_is_err_and c.from_residual.result c.from_residual.ensures.1 in
    rw (p.1, p.2) (λ files tells.
    let whole = map_made files made place (option_copied c.args.name) in let first = picture_loaded files made place name in
    let second = map_step files made place in let is = ap (λ o. map_made files made place (option_copied o)) c.in-Some.is ∙ map_is files made place name in
    read_fails whole first second is c.in_err-picture-in-Some.field-0.0 a b (c.in_err-picture-in-Some.ensures.goes files (read_tells whole first second is files a tells)))

pub returns-in_err-add_still-in-Some-clause-goes : goal.returns-in_err-add_still-in-Some-clause-goes
returns-in_err-add_still-in-Some-clause-goes g c =
    let a = g.H.Host.state c.args.host.now in let b = g.H.Host.state c.picture_loaded.new.host in
    let made = made_view c.args.self.now in let place = c.args.place in let name = c.in-Some.name.now in
    let mid = made_view c.picture_loaded.new.self in let picture = c.in_ok-picture-in-Some.picture in
    let p = err_from_is_err_and c.from_residual-in_err-add_still-in-Some.result c.from_residual-in_err-add_still-in-Some.ensures.1 in
    rw (p.1, p.2) (λ files tells.
    let whole = map_made files made place (option_copied c.args.name) in let first = picture_loaded files made place name in
    let second = map_step files made place in let is = ap (λ o. map_made files made place (option_copied o)) c.in-Some.is ∙ map_is files made place name in
    memory_then whole first second is (mid, picture) a b (c.in_ok-picture-in-Some.ensures.goes files (read_tells whole first second is files a tells)))

pub returns-in_ok-add_still-in-Some-clause-goes : goal.returns-in_ok-add_still-in-Some-clause-goes
returns-in_ok-add_still-in-Some-clause-goes g c = λ files tells.
    let a = g.H.Host.state c.args.host.now in let b = g.H.Host.state c.picture_loaded.new.host in
    let made = made_view c.args.self.now in let place = c.args.place in let name = c.in-Some.name.now in
    let mid = made_view c.picture_loaded.new.self in let picture = c.in_ok-picture-in-Some.picture in
    let whole = map_made files made place (option_copied c.args.name) in let first = picture_loaded files made place name in
    let second = map_step files made place in let is = ap (λ o. map_made files made place (option_copied o)) c.in-Some.is ∙ map_is files made place name in
    let table = c.add_still.new.self in
    ends_well whole first second is (mid, picture) a b (c.in_ok-picture-in-Some.ensures.goes files (read_tells whole first second is files a tells))
    (Ok (with_map mid picture)) refl (λ map. (record mid { sources = table }, map)) (Some c.in_ok-add_still-in-Some.field-0) (ap Ok (map_gives mid picture table c.in_ok-add_still-in-Some.field-0 c.in_ok-add_still-in-Some.ensures.added c.in_ok-add_still-in-Some.ensures.number))

pub returns-in_ok-add_still-in-Some-clause-made : goal.returns-in_ok-add_still-in-Some-clause-made
returns-in_ok-add_still-in-Some-clause-made g c =
    let mid = c.picture_loaded.new.self in
    record {
      few = c.in_ok-picture-in-Some.ensures.made.few;
      fits = subst (λ t. FitsUnits t mid.graph) (sym c.in_ok-add_still-in-Some.ensures.added) (sources_fit mid.table mid.graph (Drawn c.in_ok-picture-in-Some.picture) c.in_ok-picture-in-Some.ensures.made.fits);
    }

pub returns-in_ok-add_still-in-Some-clause-more : goal.returns-in_ok-add_still-in-Some-clause-more
returns-in_ok-add_still-in-Some-clause-more g c =
    let old = c.args.self.now in let mid = c.picture_loaded.new.self in
    let new = record mid { table = c.add_still.new.self } in
    more_behind old mid new c.in_ok-picture-in-Some.ensures.graph c.in_ok-picture-in-Some.ensures.table (more_sources mid new (Drawn c.in_ok-picture-in-Some.picture) c.in_ok-add_still-in-Some.ensures.added refl)

pub returns-in_ok-add_still-in-Some-clause-there : goal.returns-in_ok-add_still-in-Some-clause-there
returns-in_ok-add_still-in-Some-clause-there g c =
    map_there c.picture_loaded.new.self.table c.add_still.new.self c.in_ok-picture-in-Some.picture c.in_ok-add_still-in-Some.field-0 c.in_ok-add_still-in-Some.ensures.added c.in_ok-add_still-in-Some.ensures.number
