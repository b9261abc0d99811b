use Rattle.std.proofs.Common.{◌≡◌, ℕ, ◌-◌, ◌*◌, ◌<◌, ◌≤◌, get_or, Some}
use Rattle.mlt_tree.specs.Merges.{luma}
use Rattle.mlt_trans.proofs.wipe.wipe_row.Given as goal

-- the blocks before this one are mixed, the others as they were
abbrev pub invariant-loop-from : goal.invariant-loop-from
invariant-loop-from l =
    record {
      within : l.from ≤ l.pixels;
      done : (k : ℕ) → k < l.from * 4 → get_or l.row k 0 ≡ luma (Some l.map) l.shares.softness l.shares.q l.fn.row l.other k;
      left : (k : ℕ) → l.from * 4 ≤ k → get_or l.row k 0 ≡ get_or l.fn.row k 0;
    }

abbrev pub decreases-loop-from : goal.decreases-loop-from
decreases-loop-from l = l.pixels - l.from
