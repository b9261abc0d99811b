use Rattle.std.proofs.Common.{◌≡◌, ◌++◌, [], ◌∷◌, length, Ok, ap, sym, ◌∙◌, subst, refl}
use Rattle.std.proofs.lemmas.Result.{err_from_is_err_and}
use Rattle.mlt_base.specs.Try.{TryFails}
use Rattle.mlt_tree.specs.Sealing.{show_of_tree, all_units}
use Rattle.mlt_tree.specs.Sources.{Fits}
use Rattle.mlt_tree.specs.Units.{tractor_of, level_frames}
use Rattle.mlt_tree.proofs.FitsTree.{fits_tree}
use Rattle.mlt_graph.specs.Sealed.{tree}
use Rattle.melt_build.specs.Built.{checked}
use Rattle.melt_build.specs.State.{state_view}
use Rattle.melt_build.proofs.Levels.{level_below, maps_within}
use Rattle.melt_build.proofs.Sealed.{fits_more, seal-tree}
use Rattle.melt_build.proofs.seal.seal.Goals as goal

pub sealed-requires-clause-below : goal.sealed-requires-clause-below
sealed-requires-clause-below c = level_below (length c.args.state.made.graph) c.args.state.made.table c.args.state.level c.requires.level

pub returns-clause-fits : goal.returns-clause-fits
returns-clause-fits c =
    let state = c.args.state in
    let units = state.made.graph ++ tractor_of state.level ∷ [] in
    subst (Fits state.made.table) (sym (c.in_ok-show_of_tree.ensures.tree ∙ ap tree c.in_ok-sealed.ensures.sealed)) (fits_tree state.made.table units (fits_more state.made.table state.made.graph (tractor_of state.level) (maps_within state.made.table (level_frames state.level) state.level.plants c.requires.level.maps) c.requires.made.fits) (length state.made.graph))

pub returns-in_err-show_of_tree-clause-show : goal.returns-in_err-show_of_tree-clause-show
returns-in_err-show_of_tree-clause-show c =
    let s = state_view c.args.state in
    let whole = subst (λ places. checked c.args.count places s.level (all_units s) (length s.made.units) ≡ Ok tt) c.as_slice.ensures.value c.in_ok-sealed.ensures.value in
    let p = err_from_is_err_and c.from_residual-in_err-show_of_tree.result c.from_residual-in_err-show_of_tree.ensures.1 in
    rw (p.1, p.2) (subst (TryFails c.in_err-show_of_tree.field-0.0) (sym (seal-tree c.args.count s whole ∙ ap (show_of_tree c.args.count s) (sym (ap tree c.in_ok-sealed.ensures.sealed)))) (c.in_err-show_of_tree.ensures.show s refl refl))
