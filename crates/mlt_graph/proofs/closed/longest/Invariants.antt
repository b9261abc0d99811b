use Rattle.std.proofs.Common.{◌≡◌, take, fold, max}
use Rattle.mlt_tree.specs.Edits.{frames_in}
use Rattle.mlt_graph.proofs.closed.longest.Given as goal

abbrev pub invariant-loop-track : goal.invariant-loop-track
invariant-loop-track l = l.most ≡ fold (λ most track. max most (frames_in track.entries)) 0 (take l.track-index l.tracks)
