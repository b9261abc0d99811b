use Rattle.std.proofs.Common.{◌≡◌, ◌≤◌, ◌+◌, ◌*◌, length, drop, None}
use Rattle.mlt_tree.specs.Units.{tree_of}
use Rattle.mlt_start.specs.Asked.{medium_of}
use Rattle.mlt_start.specs.Found.{shown_code}
use Rattle.mlt_start.proofs.has.+has.Given as goal

-- down to a lower unit, and within a unit from its body to an entry
abbrev pub decreases-has_body : goal.decreases-has_body
decreases-has_body l = 6 * l.unit + 4

abbrev pub decreases-has_entries : goal.decreases-has_entries
decreases-has_entries l = 6 * l.unit + 1

abbrev pub decreases-has_entry : goal.decreases-has_entry
decreases-has_entry l = 6 * l.below

abbrev pub decreases-has_track : goal.decreases-has_track
decreases-has_track l = 6 * l.unit + 2

abbrev pub decreases-has_tracks : goal.decreases-has_tracks
decreases-has_tracks l = 6 * l.unit + 3

abbrev pub decreases-has_unit : goal.decreases-has_unit
decreases-has_unit l = 6 * l.unit + 5

-- the tracks from here on have nothing
abbrev pub invariant-has_tracks-loop-row : goal.invariant-has_tracks-loop-row
invariant-has_tracks-loop-row l = record {
  within : l.row ≤ length l.tracks;
  nothing : shown_code (medium_of l.asked) (tree_of l.sealed.units) l.at (drop l.row l.tracks) ≡ None;
}

abbrev pub decreases-has_tracks-loop-row : goal.decreases-has_tracks-loop-row
decreases-has_tracks-loop-row l = l.row
