-- What is planted by words.
use Rattle.std.proofs.Common.{ℕ, ◌≡◌, List, [], ◌∷◌, ◌++◌, Option, Some, unwrap_or, Ok, All, refl, sym, ap, ◌∙◌, subst}
use Rattle.mlt_tree.specs.declared.draft.PendingPlant.{PendingPlant}
use Rattle.mlt_tree.specs.declared.draft.PendingPlant.TheVariants.{OnTrack}
use Rattle.mlt_tree.specs.declared.group.Group.{Group}
use Rattle.mlt_tree.specs.declared.group.Prop.{Prop}
use Rattle.mlt_tree.specs.declared.services.FilterRow.{FilterRow}
use Rattle.mlt_tree.specs.declared.services.TheConstants as row
use Rattle.mlt_tree.specs.Attaching.{Asked, asked_by, filter_props}
use Rattle.mlt_tree.specs.Composition.{State}
use Rattle.mlt_tree.specs.Planting.{current, with_planted, filter_planted, plant_filter}
use Rattle.mlt_tree.specs.Props.{number}
use Rattle.mlt_tree.specs.Services.{called, filter_named}
use Rattle.mlt_tree.specs.declared.merge.MergeSpec.{MergeSpec}
use Rattle.mlt_tree.specs.declared.node.Node.{Node}
use Rattle.mlt_tree.specs.Sources.{HasPicture, maps_of_merge}
use Rattle.mlt_tree.specs.Units.{Level, with_plant, with_mixer}
use Rattle.melt_build.specs.declared.state.State.{State as Composed}
use Rattle.melt_build.specs.State.{IsComposed, IsKnownLevel}
use Rattle.melt_build.proofs.Levels.{mix_more}
use Rattle.melt_build.proofs.Mixed.{merge_fits, merge_length, merge_mixes}

-- with what a plant leaves of the level and of the places
pub planted_is : (s : State) (place : ℕ) (plant : PendingPlant) (level : Level) (places : List ℕ) → level ≡ with_plant s.level plant → places ≡ s.plant_places ++ place ∷ [] → with_planted s place plant ≡ record s { level = level; plant_places = places }
planted_is s place plant level places on at =
    ap (λ l. record s { level = l; plant_places = s.plant_places ++ place ∷ [] }) (sym on) ∙ ap (λ ps. record s { level = level; plant_places = ps }) (sym at)

-- a filter whose word names one, with what its properties ask for
module _ (s : State) (g : Group) (service : FilterRow) (named : Option ℕ) (asked : Asked) where
  filter_by : filter_named (called g.arg).id ≡ Some service → number row.TRACK (filter_props s g service) ≡ Ok named → asked_by s g service.kind (filter_props s g service) ≡ Ok asked → plant_filter s g ≡ Ok (with_planted s g.place (OnTrack (unwrap_or named (current s)) asked.spec asked.first asked.last))
  unfolding plant_filter filter_planted
  filter_by found track asks = rw (found, track, asks) refl

  pub filter_done : (props : List Prop) → filter_named (called g.arg).id ≡ Some service → number row.TRACK props ≡ Ok named → asked_by s g service.kind props ≡ Ok asked → props ≡ filter_props s g service → plant_filter s g ≡ Ok (with_planted s g.place (OnTrack (unwrap_or named (current s)) asked.spec asked.first asked.last))
  filter_done props found track asks same =
      filter_by found (subst (λ ps. number row.TRACK ps ≡ Ok named) same track) (subst (λ ps. asked_by s g service.kind ps ≡ Ok asked) same asks)

-- a merge more on a mix
pub merged_composed : (s : Composed) (units : List Node) (unit : ℕ) (spec : MergeSpec) → IsComposed s → All (HasPicture s.made.table) (maps_of_merge spec) → units ≡ with_mixer s.made.graph unit spec → IsComposed (record s { made = record s.made { graph = units } })
merged_composed s units unit spec composed maps is = subst (λ us. IsComposed (record s { made = record s.made { graph = us } })) (sym is) (record {
  made = record {
    few = composed.made.few;
    fits = merge_fits s.made.table s.made.graph unit spec maps composed.made.fits;
  };
  level = subst (λ n. IsKnownLevel n s.made.table s.level) (sym (merge_length s.made.graph unit spec)) composed.level;
  mix = mix_more s.made.graph (with_mixer s.made.graph unit spec) (merge_mixes s.made.graph unit spec) s.last_mix composed.mix;
  placed = composed.placed;
})
