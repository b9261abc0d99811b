-- What building a show answers, against what the groups mean.
use Rattle.std.specs.Prelude.{ℕ, List, length, get_or, Result}
use Rattle.std.specs.List.{zip}
use Rattle.mlt_base.specs.Steps.{◌>>=◌}
use Rattle.mlt_base.specs.declared.refusal.Try.{Try}
use Rattle.mlt_base.specs.declared.refusal.Try.TheVariants.{Fault, Memory}
use Rattle.mlt_tree.specs.declared.refusal.Cause.TheVariants as cause
use Rattle.mlt_tree.specs.declared.refusal.Refusal.{Refusal}
use Rattle.mlt_tree.specs.declared.node.Node.{Node}
use Rattle.mlt_tree.specs.Refusing.{refusal_at}
use Rattle.mlt_tree.specs.Sealing.{each_on_tracks, sealable}
use Rattle.mlt_tree.specs.Units.{Level, drafts_of}
use Rattle.mlt_graph.specs.declared.fault.GraphFault.{GraphFault}
use Rattle.mlt_graph.specs.declared.fault.GraphFault.TheVariants as graph

-- a graph's refusal, at a place; that of a plant is at the place of its group
abbrev pub refusal_of : ℕ → (plants : List ℕ) → GraphFault → Try Refusal
refusal_of place plants (graph.BadTrack plant track tracks) = Fault (refusal_at (get_or plants plant 0) (cause.BadTrack track tracks))
refusal_of place plants (graph.SameTrack plant track) = Fault (refusal_at (get_or plants plant 0) (cause.SameTrack track))
refusal_of place plants graph.NoProducer = Fault (refusal_at place cause.NoProducer)
refusal_of place plants (graph.TooDeep depth) = Fault (refusal_at place (cause.TooDeep depth))
refusal_of place plants (graph.TooMany limit) = Fault (refusal_at place (cause.TooMany limit))
refusal_of place plants graph.Memory = Memory

-- what is planted, at the places of its groups, is on tracks that are there, and then the unit on top can be sealed
abbrev pub checked : (count : ℕ) (places : List ℕ) → Level → List Node → (top : ℕ) → Result (Unit {0}) Refusal
checked count places level units top =
    each_on_tracks (length (drafts_of level)) (zip places level.plants) >>= λ on_tracks. sealable count units top
