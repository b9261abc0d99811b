use Rattle.std.proofs.Common.{◌≡◌, is_some, length, map, take}
use Rattle.mlt_tree.specs.Units.{tree_of, tracks_of}
use Rattle.mlt_start.specs.Asked.{medium_of}
use Rattle.mlt_start.specs.Code.{rows_code}
use Rattle.mlt_start.proofs.has.fill_has.Given as goal

-- it is told of the tracks so far
abbrev pub invariant-loop-row : goal.invariant-loop-row
invariant-loop-row l = record {
  long : length l.has ≡ length l.tracks;
  told : take l.row l.has ≡ map is_some (rows_code (medium_of l.asked) (tracks_of (tree_of l.sealed.units) (take l.row l.tracks)) l.at);
}
