use Rattle.std.proofs.Common.{◌≡◌, take}
use Rattle.mlt_graph.specs.Weights.{tracks_weight}
use Rattle.mlt_graph.proofs.weight.Weight.of_tracks.Given as goal

abbrev pub invariant-loop-track : goal.invariant-loop-track
invariant-loop-track l = l.weight ≡ tracks_weight l.table (take l.track-index l.tracks)
