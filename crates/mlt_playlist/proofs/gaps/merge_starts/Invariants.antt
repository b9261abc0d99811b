use Rattle.std.proofs.Common.{◌≤◌, length}
use Rattle.mlt_playlist.specs.Gaps.{IsMergedFrom}
use Rattle.mlt_playlist.proofs.gaps.merge_starts.Given as goal

-- the numbers of the entries behind are merged
abbrev pub invariant-loop-at : goal.invariant-loop-at
invariant-loop-at l =
    record {
      within : l.at ≤ length l.entries;
      merged : IsMergedFrom l.entries l.at l.starts l.behind;
    }

abbrev pub decreases-loop-at : goal.decreases-loop-at
decreases-loop-at l = l.at
