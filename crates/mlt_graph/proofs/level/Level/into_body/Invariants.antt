use Rattle.std.proofs.Common.{◌≡◌, map}
use Rattle.mlt_tree.specs.Ranges.{frames}
use Rattle.mlt_tree.specs.Units.{track_of}
use Rattle.mlt_graph.proofs.level.Level.into_body.Given as goal

-- the tracks so far, and where their entries begin
abbrev pub invariant-loop-draft : goal.invariant-loop-draft
invariant-loop-draft l = record {
  tracks : l.tracks.items ≡ map track_of l.yielded;
  starts : l.starts.items ≡ map (λ draft. map frames draft.entries) l.yielded;
}
