use Rattle.std.proofs.Common.{◌≡◌, ◌≤◌, ◌+◌, ◌*◌, ◌++◌, nat_eq, length, get_or, drop, None}
use Rattle.mlt_frame.specs.Stack.{room}
use Rattle.mlt_tree.specs.Sizes.{ops_of_rows}
use Rattle.mlt_tree.specs.Units.{tree_of, tracks_of}
use Rattle.mlt_start.specs.Asked.{medium_of}
use Rattle.mlt_start.specs.Code.{row_ops, rows_code}
use Rattle.mlt_start.specs.Found.{shown_code}
use Rattle.mlt_start.proofs.walk.+walk.Given as goal

-- down to a lower unit, and within a unit from its body to an entry
abbrev pub decreases-push_body : goal.decreases-push_body
decreases-push_body l = 10 * l.unit + 8

abbrev pub decreases-push_entries : goal.decreases-push_entries
decreases-push_entries l = 10 * l.unit + 1

abbrev pub decreases-push_entry : goal.decreases-push_entry
decreases-push_entry l = 10 * l.below

abbrev pub decreases-push_track : goal.decreases-push_track
decreases-push_track l = 10 * l.unit + 2

abbrev pub decreases-push_tracks : goal.decreases-push_tracks
decreases-push_tracks l = 10 * l.unit + 3

abbrev pub decreases-push_unit : goal.decreases-push_unit
decreases-push_unit l = 10 * l.unit + 9

abbrev pub decreases-push_row : goal.decreases-push_row
decreases-push_row l = 10 * l.unit + 3

abbrev pub decreases-push_rows : goal.decreases-push_rows
decreases-push_rows l = 10 * l.unit + 4

abbrev pub decreases-push_planned : goal.decreases-push_planned
decreases-push_planned l = 10 * l.unit + 5

abbrev pub decreases-push_planted : goal.decreases-push_planted
decreases-push_planted l = 10 * l.unit + 6

abbrev pub decreases-push_tractor : goal.decreases-push_tractor
decreases-push_tractor l = 10 * l.unit + 7

-- the tracks from here on have nothing, and nothing is pushed
abbrev pub invariant-push_tracks-loop-row : goal.invariant-push_tracks-loop-row
invariant-push_tracks-loop-row l = record {
  within : l.row ≤ length l.tracks;
  nothing : shown_code (medium_of l.asked) (tree_of l.sealed.units) l.at (drop l.row l.tracks) ≡ None;
  ops : l.stack.ops ≡ l.initial.stack.ops;
  room : room l.stack ≡ room l.initial.stack;
}

abbrev pub decreases-push_tracks-loop-row : goal.decreases-push_tracks-loop-row
decreases-push_tracks-loop-row l = l.row

-- with the tracks from here on it is what all come to, and there is room for them
abbrev pub invariant-push_rows-loop-row : goal.invariant-push_rows-loop-row
invariant-push_rows-loop-row l = record {
  ops : l.stack.ops ++ row_ops (λ row. nat_eq (get_or l.ends row 0) l.shown) l.row (rows_code (medium_of l.asked) (tracks_of (tree_of l.sealed.units) (drop l.row l.tracks)) l.at) ≡ l.initial.stack.ops ++ row_ops (λ row. nat_eq (get_or l.ends row 0) l.shown) 0 (rows_code (medium_of l.asked) (tracks_of (tree_of l.sealed.units) l.tracks) l.at);
  spare : ops_of_rows (tracks_of (tree_of l.sealed.units) (drop l.row l.tracks)) ≤ l.stack.spare;
  room : room l.stack ≡ room l.initial.stack;
}
