use Rattle.std.proofs.Common.{◌≤◌}
use Rattle.mlt_playlist.specs.Changed.{moved}
use Rattle.mlt_playlist.specs.Playlist.{IsIndexed}
use Rattle.mlt_playlist.proofs.moved.move_start_before.Given as goal

-- the number is moved as far as this index
abbrev pub invariant-loop-index : goal.invariant-loop-index
invariant-loop-index l =
    record {
      within : l.index ≤ l.from;
      ahead : l.to ≤ l.index;
      indexed : IsIndexed (moved l.entries l.from l.index) l.starts;
    }

abbrev pub decreases-loop-index : goal.decreases-loop-index
decreases-loop-index l = l.index
