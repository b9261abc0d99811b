-- What a merge's word asks for, as the definitions see it, and what comes of it.
use Rattle.std.specs.Prelude.{ℕ, Result, Ok}
use Rattle.mlt_base.specs.Steps.{◌>>=◌}
use Rattle.mlt_tree.specs.declared.group.Group.{Group}
use Rattle.mlt_tree.specs.declared.merge.MergeSpec.{MergeSpec}
use Rattle.mlt_tree.specs.declared.refusal.Cause.TheVariants as cause
use Rattle.mlt_tree.specs.declared.refusal.Refusal.{Refusal}
use Rattle.mlt_tree.specs.Attaching.{ordered}
use Rattle.mlt_tree.specs.Composition.{State}
use Rattle.mlt_tree.specs.Merging.{Merging, crossed, with_mix_merged}
use Rattle.mlt_tree.specs.Planting as planting
use Rattle.mlt_tree.specs.Refusing.{or_refuse}
use Rattle.melt_build.specs.declared.state.Made.{Made}
use Rattle.melt_build.specs.declared.wanted.Crossing.{Crossing}
use Rattle.melt_build.specs.State.{made_view}

abbrev pub crossing_view : Crossing → planting.Crossing
crossing_view tracks = record { a = tracks.a; b = tracks.b; first = tracks.first; last = tracks.last }

-- among all that was made so far
abbrev pub merging_view : Made → MergeSpec → Merging
merging_view made spec = record { made = made_view made; spec = spec }

-- what is made of what a step gives, unless that is refused
abbrev pub made_of : {X Y : Type 0} → Result X Refusal → (X → Y) → Result Y Refusal
made_of step make = step >>= λ x. Ok (make x)

-- with a merge planted on two tracks, where its range is in order
abbrev pub crossed_in_order : State → Group → planting.Crossing → Merging → Result State Refusal
crossed_in_order s g tracks merging = made_of (ordered g.place tracks.first tracks.last) (λ range. crossed s g tracks merging)

-- with a merge more on the last mix, where there is one
abbrev pub last_mix_merged : State → (place : ℕ) → Merging → Result State Refusal
last_mix_merged s place merging = made_of (or_refuse place cause.NoMix s.last_mix) (λ unit. with_mix_merged s unit merging)
