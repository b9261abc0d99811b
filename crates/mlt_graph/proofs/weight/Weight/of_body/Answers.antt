use Rattle.std.proofs.Common.{length, sym, subst}
use Rattle.std.specs.List.{All}
use Rattle.mlt_tree.specs.Units.{entries_of, IsEntryBelow}
use Rattle.mlt_graph.proofs.weight.Weight.of_body.Goals as goal

pub of_tracks-requires : goal.of_tracks-requires
of_tracks-requires c =
    let members = rw c.in-Tractor.is at c.requires in
    subst (All (λ track. All (IsEntryBelow (length c.args.table.now)) (entries_of track))) (sym c.as_slice-in-Tractor.ensures) (λ k d within. (members.tracks_below k d within).entries.below)
