use Rattle.std.proofs.Common.{◌∙◌, arith, sym, subst}
use Rattle.std.proofs.lemmas.List.{length-set}
use Rattle.mlt_tree.specs.Units.{IsTrackBelow, tree_of}
use Rattle.mlt_start.specs.Asked.{medium_of}
use Rattle.mlt_start.proofs.Having.{has-more}
use Rattle.mlt_start.proofs.Walked.{row-list}
use Rattle.mlt_start.proofs.has.fill_has.Goals as goal

pub has_track-requires-clause-track_below : goal.has_track-requires-clause-track_below
has_track-requires-clause-track_below c =
    subst (IsTrackBelow c.args.unit) (sym c.index-tracks-row.is) (c.requires.tracks_below c.loop-row.row c.index-tracks-row.result (omega arith))

pub has_track-requires-clause-list : goal.has_track-requires-clause-list
has_track-requires-clause-list c =
    row-list c.args.sealed.now.units c.args.unit c.loop-row.row c.args.tracks.now c.index-tracks-row.result c.requires.lists (omega arith) c.index-tracks-row.is

pub loop-row-preserved : goal.loop-row-preserved
loop-row-preserved c = record {
  long = length-set c.loop-row.has c.loop-row.row c.has_track.result ∙ c.loop-row.invariant.long;
  told = has-more (medium_of c.args.asked) (tree_of c.args.sealed.now.units) c.args.at c.args.tracks.now c.loop-row.has c.loop-row.row c.index-tracks-row.result c.has_track.result (omega arith) c.index-tracks-row.is c.loop-row.invariant.long c.loop-row.invariant.told c.has_track.ensures;
}
