-- Merges that words plant on tracks, or on the last mix; a map is looked up among the files.
use Rattle.std.specs.Prelude.{ℕ, ◌++◌, List, [], ◌∷◌, length, Option, None, Some}
use Rattle.mlt_base.specs.declared.profile.SourceNo.{SourceNo}
use Rattle.mlt_base.specs.Still.{Picture}
use Rattle.mlt_tree.specs.declared.draft.PendingPlant.TheVariants.{Between}
use Rattle.mlt_tree.specs.declared.group.Group.{Group}
use Rattle.mlt_tree.specs.declared.group.Prop.{Prop}
use Rattle.mlt_tree.specs.declared.merge.MergeSpec.{MergeSpec}
use Rattle.mlt_tree.specs.declared.merge.MergeSpec.TheVariants.{Luma, Composite, Matte}
use Rattle.mlt_tree.specs.declared.refusal.Cause.TheVariants as cause
use Rattle.mlt_tree.specs.declared.services.MergeKind.{MergeKind}
use Rattle.mlt_tree.specs.declared.services.MergeKind.TheVariants as merge
use Rattle.mlt_tree.specs.declared.services.MergeRow.{MergeRow}
use Rattle.mlt_tree.specs.declared.services.TheConstants as row
use Rattle.mlt_tree.specs.Attaching.{ordered, valued}
use Rattle.mlt_tree.specs.Composition.{Made, State, props_of}
use Rattle.mlt_tree.specs.Loaded.{picture_loaded}
use Rattle.mlt_tree.specs.Loading.{Files, Read, done, plainly, ◌>>=◌}
use Rattle.mlt_tree.specs.Planting.{Crossing, crossing, with_planted}
use Rattle.mlt_tree.specs.Props.{share, area, file_name}
use Rattle.mlt_tree.specs.Refusing.{refuse, or_refuse}
use Rattle.mlt_tree.specs.Services.{called, merge_named}
use Rattle.mlt_tree.specs.Show.{Drawn}
use Rattle.mlt_tree.specs.Units.{with_mixer}

-- ---- what a merge's word asks for

-- a merge, and what is made with the source of its map
pub record Merging : Type 0 where
  pub made : Made
  pub spec : MergeSpec

-- a source that is no unit's
abbrev pub with_map : Made → Picture → Made × Option SourceNo
with_map made picture =
    (record made { sources = made.sources ++ Drawn picture ∷ [] }, Some (record { 0 = length made.sources }))

unfoldable pub map_made : Files → Made → (place : ℕ) → Option (List ℕ) → Read (Made × Option SourceNo)
map_made files made place None = done (made, None)
map_made files made place (Some name) =
    picture_loaded files made place name >>= λ read. done (with_map read.0 read.1)

unfoldable pub luma_made : Files → State → Group → List Prop → Read Merging
luma_made files s g props = do
  softness ← plainly (share row.SOFTNESS props)
  map ← map_made files s.made g.place (file_name row.RESOURCE props)
  done (record { made = map.0; spec = Luma map.1 (record { 0 = softness }) })

-- the merge of a kind, with its properties; merges of sound are refused before
unfoldable pub merge_made : Files → State → Group → MergeKind → List Prop → Read Merging
merge_made files s g merge.Luma props = luma_made files s g props
merge_made files s g merge.Composite props =
    plainly (area row.GEOMETRY s.profile props) >>= λ geometry. done (record { made = s.made; spec = Composite geometry })
merge_made files s g merge.Matte props = done (record { made = s.made; spec = Matte })
merge_made files s g merge.Mix props = plainly (refuse g.place cause.Unsupported)
merge_made files s g merge.Sum props = plainly (refuse g.place cause.Unsupported)

abbrev pub merge_props : State → Group → MergeRow → List Prop
merge_props s g service = valued g.place service.first (called g.arg).value ++ props_of s g

abbrev pub merge_of : Group → Read MergeRow
merge_of g = plainly (or_refuse g.place cause.UnknownService (merge_named (called g.arg).id))

-- ---- on two tracks

abbrev pub crossed : State → Group → Crossing → Merging → State
crossed s g tracks merging =
    with_planted (record s { made = merging.made }) g.place (Between tracks.a tracks.b merging.spec tracks.first tracks.last)

unfoldable pub merge_planted : Files → State → Group → MergeRow → Read State
merge_planted files s g service = do
  tracks ← plainly (crossing s (merge_props s g service))
  merging ← merge_made files s g service.kind (merge_props s g service)
  range ← plainly (ordered g.place tracks.first tracks.last)
  done (crossed s g tracks merging)

unfoldable pub transition : Files → State → Group → Read State
transition files s g = merge_of g >>= merge_planted files s g

-- ---- on the last mix

-- with one merge more on a mix
abbrev pub with_mix_merged : State → (unit : ℕ) → Merging → State
with_mix_merged s unit merging =
    record s { made = record merging.made { units = with_mixer merging.made.units unit merging.spec } }

unfoldable pub merge_mixed : Files → State → Group → MergeRow → Read State
merge_mixed files s g service = do
  merging ← merge_made files s g service.kind (merge_props s g service)
  unit ← plainly (or_refuse g.place cause.NoMix s.last_mix)
  done (with_mix_merged s unit merging)

unfoldable pub mixer : Files → State → Group → Read State
mixer files s g = merge_of g >>= merge_mixed files s g
