-- What the words of merges do, step by step.
use Rattle.std.proofs.Common.{ℕ, ◌≡◌, List, Option, Result, Ok, Err, refl, sym, ap, ◌∙◌, subst}
use Rattle.mlt_base.specs.Try as tried
use Rattle.mlt_base.specs.declared.refusal.Try.{Try}
use Rattle.mlt_host.specs.Host.{HostState}
use Rattle.mlt_base.specs.declared.profile.SourceNo.{SourceNo}
use Rattle.mlt_tree.specs.declared.group.Group.{Group}
use Rattle.mlt_tree.specs.declared.group.Prop.{Prop}
use Rattle.mlt_tree.specs.declared.merge.MergeSpec.TheVariants.{Luma}
use Rattle.mlt_tree.specs.declared.refusal.Cause.TheVariants as cause
use Rattle.mlt_tree.specs.declared.refusal.Refusal.{Refusal}
use Rattle.mlt_tree.specs.declared.services.MergeKind.TheVariants as merge
use Rattle.mlt_tree.specs.declared.services.MergeRow.{MergeRow}
use Rattle.mlt_tree.specs.declared.services.TheConstants as row
use Rattle.mlt_tree.specs.Attaching.{ordered}
use Rattle.mlt_tree.specs.Composition.{Made, State}
use Rattle.mlt_tree.specs.Loading.{Files, Read, done, plainly, ◌>>=◌}
use Rattle.mlt_tree.specs.Merging.{Merging, map_made, luma_made, merge_made, merge_props, crossed, merge_planted, transition, with_mix_merged, merge_mixed, mixer}
use Rattle.mlt_tree.specs.Planting.{Crossing, crossing}
use Rattle.mlt_tree.specs.Props.{share, file_name}
use Rattle.mlt_tree.specs.Refusing.{or_refuse}
use Rattle.mlt_tree.specs.Services.{called, merge_named}
use Rattle.melt_build.specs.declared.fault.BuildFault.{BuildFault}
use Rattle.melt_build.specs.declared.fault.BuildFault.TheVariants.{Refused}
use Rattle.melt_build.specs.Failing.{fault_of}
use Rattle.melt_build.specs.Loads.{names_of, Asks, TellsFiles, StepFails, Goes}
use Rattle.melt_build.proofs.Steps.{plain_refused, plain_then, read_tells, read_fails, ends_well, ends_badly}
use Rattle.melt_build.specs.Plant.{made_of, crossed_in_order, last_mix_merged}

-- a step that looks up no file, and what is made of what it gives
pub plain_done : {X Y : Type 0} (r : Result X Refusal) (f : X → Y) → (plainly r >>= λ x. done (f x)) ≡ plainly (made_of r f)
plain_done (Ok x) f = refl
plain_done (Err refusal) f = refl

module _ (files : Files) (s : State) (g : Group) where
  -- ---- a merge by a map

  pub made_luma : (props : List Prop) → merge_made files s g merge.Luma props ≡ luma_made files s g props
  unfolding merge_made
  made_luma props = refl

  module _ (props : List Prop) where
    abbrev luma_of : ℕ → Made × Option SourceNo → Merging
    luma_of softness map = record { made = map.0; spec = Luma map.1 (record { 0 = softness }) }

    abbrev map_read : Read (Made × Option SourceNo)
    map_read = map_made files s.made g.place (file_name row.RESOURCE props)

    abbrev luma_step : ℕ → Made × Option SourceNo → Read Merging
    luma_step softness map = done (luma_of softness map)

    abbrev whole : Read Merging
    whole = luma_made files s g props

    luma_is : whole ≡ (plainly (share row.SOFTNESS props) >>= λ softness. map_read >>= luma_step softness)
    unfolding luma_made
    luma_is = refl

    pub softness_fails : (refusal : Refusal) (a : HostState) → share row.SOFTNESS props ≡ Err refusal → StepFails (Refused refusal) whole a a
    softness_fails refusal a h =
        plain_refused whole (share row.SOFTNESS props) (λ softness. map_read >>= luma_step softness) luma_is refusal a h

    module _ (softness : ℕ) (is : share row.SOFTNESS props ≡ Ok softness) where
      rest : whole ≡ (map_read >>= luma_step softness)
      rest = plain_then whole (share row.SOFTNESS props) (λ softness. map_read >>= luma_step softness) luma_is softness is

      pub tells_map : (host : HostState) → TellsFiles files whole host → TellsFiles files map_read host
      tells_map host tells = read_tells whole map_read (luma_step softness) rest files host tells

      pub map_fails : (fault : BuildFault) (a b : HostState) → StepFails fault map_read a b → StepFails fault whole a b
      map_fails fault a b fails = read_fails whole map_read (luma_step softness) rest fault a b fails

      pub luma_goes : {Z : Type 0} (view : Z → Merging) (z : Z) (map : Made × Option SourceNo) (a b : HostState) → (map_read.end ≡ Ok map) × Asks (names_of map_read.loads) a b → view z ≡ luma_of softness map → Goes view (Ok z) whole a b
      luma_goes view z map a b did h =
          ends_well whole map_read (luma_step softness) rest map a b did (Ok (luma_of softness map)) refl view z (ap Ok (sym h))

  -- ---- what the word names

  abbrev named : Result MergeRow Refusal
  named = or_refuse g.place cause.UnknownService (merge_named (called g.arg).id)

  transition_is : transition files s g ≡ (plainly named >>= merge_planted files s g)
  unfolding transition
  transition_is = refl

  mixer_is : mixer files s g ≡ (plainly named >>= merge_mixed files s g)
  unfolding mixer
  mixer_is = refl

  pub transition_unknown : (refusal : Refusal) (a : HostState) → named ≡ Err refusal → StepFails (Refused refusal) (transition files s g) a a
  transition_unknown refusal a h = plain_refused (transition files s g) named (merge_planted files s g) transition_is refusal a h

  pub transition_known : (service : MergeRow) → named ≡ Ok service → transition files s g ≡ merge_planted files s g service
  transition_known service h = plain_then (transition files s g) named (merge_planted files s g) transition_is service h

  pub mixer_unknown : (refusal : Refusal) (a : HostState) → named ≡ Err refusal → StepFails (Refused refusal) (mixer files s g) a a
  mixer_unknown refusal a h = plain_refused (mixer files s g) named (merge_mixed files s g) mixer_is refusal a h

  pub mixer_known : (service : MergeRow) → named ≡ Ok service → mixer files s g ≡ merge_mixed files s g service
  mixer_known service h = plain_then (mixer files s g) named (merge_mixed files s g) mixer_is service h

  module _ (service : MergeRow) where
    abbrev props_of_word : List Prop
    props_of_word = merge_props s g service

    -- by these properties
    abbrev made : List Prop → Read Merging
    made props = merge_made files s g service.kind props

    -- ---- on two tracks

    abbrev crossed_step : Crossing → Merging → Read State
    crossed_step tracks merging = plainly (ordered g.place tracks.first tracks.last) >>= λ range. done (crossed s g tracks merging)

    abbrev crossing_step : Crossing → Read State
    crossing_step tracks = made props_of_word >>= crossed_step tracks

    abbrev planted : Read State
    planted = merge_planted files s g service

    planted_is : planted ≡ (plainly (crossing s props_of_word) >>= crossing_step)
    unfolding merge_planted
    planted_is = refl

    pub tracks_fail : (props : List Prop) (refusal : Refusal) (a : HostState) → crossing s props ≡ Err refusal → props ≡ props_of_word → StepFails (Refused refusal) planted a a
    tracks_fail props refusal a h same =
        plain_refused planted (crossing s props_of_word) crossing_step planted_is refusal a (subst (λ ps. crossing s ps ≡ Err refusal) same h)

    planted_rest : (props : List Prop) (tracks : Crossing) → crossing s props ≡ Ok tracks → props ≡ props_of_word → planted ≡ (made props >>= crossed_step tracks)
    planted_rest props tracks h same =
        plain_then planted (crossing s props_of_word) crossing_step planted_is tracks (subst (λ ps. crossing s ps ≡ Ok tracks) same h) ∙ ap (λ ps. made ps >>= crossed_step tracks) (sym same)

    pub tells_planted : (props : List Prop) (tracks : Crossing) (host : HostState) → crossing s props ≡ Ok tracks → TellsFiles files planted host → props ≡ props_of_word → TellsFiles files (made props) host
    tells_planted props tracks host h tells same =
        read_tells planted (made props) (crossed_step tracks) (planted_rest props tracks h same) files host tells

    pub planted_fails : (props : List Prop) (tracks : Crossing) (fault : BuildFault) (a b : HostState) → crossing s props ≡ Ok tracks → StepFails fault (made props) a b → props ≡ props_of_word → StepFails fault planted a b
    planted_fails props tracks fault a b h fails same =
        read_fails planted (made props) (crossed_step tracks) (planted_rest props tracks h same) fault a b fails

    pub crossed_fails : (props : List Prop) (tracks : Crossing) (merging : Merging) (refused : Try Refusal) (a b : HostState) → crossing s props ≡ Ok tracks → ((made props).end ≡ Ok merging) × Asks (names_of (made props).loads) a b → tried.TryFails refused (crossed_in_order s g tracks merging) → props ≡ props_of_word → StepFails (fault_of refused) planted a b
    crossed_fails props tracks merging refused a b h did fails same =
        ends_badly planted (made props) (crossed_step tracks) (planted_rest props tracks h same) merging a b did (crossed_in_order s g tracks merging) (plain_done (ordered g.place tracks.first tracks.last) (λ range. crossed s g tracks merging)) refused fails

    pub crossed_goes : {Z : Type 0} (view : Z → State) (z : Z) (props : List Prop) (tracks : Crossing) (merging : Merging) (a b : HostState) → crossing s props ≡ Ok tracks → ((made props).end ≡ Ok merging) × Asks (names_of (made props).loads) a b → crossed_in_order s g tracks merging ≡ Ok (view z) → props ≡ props_of_word → Goes view (Ok z) planted a b
    crossed_goes view z props tracks merging a b h did is same =
        ends_well planted (made props) (crossed_step tracks) (planted_rest props tracks h same) merging a b did (crossed_in_order s g tracks merging) (plain_done (ordered g.place tracks.first tracks.last) (λ range. crossed s g tracks merging)) view z is

    -- ---- on the last mix

    abbrev mixed_step : Merging → Read State
    mixed_step merging = plainly (or_refuse g.place cause.NoMix s.last_mix) >>= λ unit. done (with_mix_merged s unit merging)

    abbrev mixed : Read State
    mixed = merge_mixed files s g service

    mixed_is : mixed ≡ (made props_of_word >>= mixed_step)
    unfolding merge_mixed
    mixed_is = refl

    mixed_rest : (props : List Prop) → props ≡ props_of_word → mixed ≡ (made props >>= mixed_step)
    mixed_rest props same = mixed_is ∙ ap (λ ps. made ps >>= mixed_step) (sym same)

    pub tells_mixed : (props : List Prop) (host : HostState) → TellsFiles files mixed host → props ≡ props_of_word → TellsFiles files (made props) host
    tells_mixed props host tells same = read_tells mixed (made props) mixed_step (mixed_rest props same) files host tells

    pub mixed_fails : (props : List Prop) (fault : BuildFault) (a b : HostState) → StepFails fault (made props) a b → props ≡ props_of_word → StepFails fault mixed a b
    mixed_fails props fault a b fails same = read_fails mixed (made props) mixed_step (mixed_rest props same) fault a b fails

    pub merged_fails : (props : List Prop) (merging : Merging) (refused : Try Refusal) (a b : HostState) → ((made props).end ≡ Ok merging) × Asks (names_of (made props).loads) a b → tried.TryFails refused (last_mix_merged s g.place merging) → props ≡ props_of_word → StepFails (fault_of refused) mixed a b
    merged_fails props merging refused a b did fails same =
        ends_badly mixed (made props) mixed_step (mixed_rest props same) merging a b did (last_mix_merged s g.place merging) (plain_done (or_refuse g.place cause.NoMix s.last_mix) (λ unit. with_mix_merged s unit merging)) refused fails

    pub merged_goes : {Z : Type 0} (view : Z → State) (z : Z) (props : List Prop) (merging : Merging) (a b : HostState) → ((made props).end ≡ Ok merging) × Asks (names_of (made props).loads) a b → last_mix_merged s g.place merging ≡ Ok (view z) → props ≡ props_of_word → Goes view (Ok z) mixed a b
    merged_goes view z props merging a b did is same =
        ends_well mixed (made props) mixed_step (mixed_rest props same) merging a b did (last_mix_merged s g.place merging) (plain_done (or_refuse g.place cause.NoMix s.last_mix) (λ unit. with_mix_merged s unit merging)) view z is
