use Rattle.std.proofs.Common.{rules, ◌≡◌, ◌++◌, [], ◌∷◌, length, Some, unwrap_or, Ok, refl, sym, ap, ◌∙◌, subst}
use Rattle.mlt_tree.specs.declared.draft.PendingPlant.TheVariants.{OnTrack}
use Rattle.mlt_tree.specs.Planting.{current}
use Rattle.mlt_tree.specs.Services.{Called, called, filter_named}
use Rattle.mlt_tree.specs.Units.{with_plant}
use Rattle.melt_build.specs.Attach.{asked_view}
use Rattle.melt_build.specs.State.{IsKnownLevel, state_view}
use Rattle.melt_build.proofs.Levels.{level_planted, placed_more}
use Rattle.melt_build.proofs.Planted.{planted_is, filter_done}
use Rattle.melt_build.proofs.state.State.filter_planted.Goals as goal

pub returns-clause-composed : goal.returns-clause-composed
returns-clause-composed c =
    let s = c.args.self.now in let count = length s.made.graph in
    let plant = OnTrack c.unwrap_or-track.result c.in_ok-spec.field-0.spec c.in_ok-spec.field-0.first c.in_ok-spec.field-0.last in
    record {
      made = c.requires.composed.made;
      level = subst (IsKnownLevel count s.made.table) (sym c.in_ok-plant_filter.ensures.ok) (level_planted count s.made.table s.level plant c.requires.composed.level tt);
      mix = c.requires.composed.mix;
      placed = placed_more s.level c.plant_filter.new.self s.plant_places.items c.push.new.self.items c.args.group.now.place plant c.requires.composed.placed c.in_ok-plant_filter.ensures.ok (search rules);
    }

pub returns-clause-value : goal.returns-clause-value
returns-clause-value c =
    let s = state_view c.args.self.now in let group = c.args.group.now in let service = c.in-Some.service in
    let named = c.in_ok-named.named in let asked = asked_view c.in_ok-spec.field-0 in
    let track = unwrap_or named (current s) in
    let found : filter_named (called group.arg).id ≡ Some service = ap (λ w. filter_named (called w).id) (sym c.as_str.ensures) ∙ ap (λ (w : Called). filter_named w.id) (sym c.called-word.ensures) ∙ sym c.filter_named.ensures ∙ c.in-Some.is in
    let on : c.plant_filter.new.self ≡ with_plant s.level (OnTrack track asked.spec asked.first asked.last) = search rules in
    let at : c.push.new.self.items ≡ s.plant_places ++ group.place ∷ [] = search rules in
    filter_done s group service named asked _ found (sym c.number.ensures.value ∙ c.in_ok-named.was) (c.in_ok-spec.ensures.value s group refl refl) (search rules)
    ∙ ap Ok (planted_is s group.place (OnTrack track asked.spec asked.first asked.last) c.plant_filter.new.self c.push.new.self.items on at)
