use Rattle.std.proofs.Common.{◌≡◌, ℕ, ◌-◌, ◌*◌, ◌%◌, ◌<◌, ◌≤◌, get_or}
use Rattle.mlt_vfilter.specs.Places.{runs}
use Rattle.mlt_vfilter.proofs.obscure.make_runs.Given as goal

-- the runs before this one are made, the pixels from it on as they were
abbrev pub invariant-loop-from : goal.invariant-loop-from
invariant-loop-from l =
    record {
      within : l.from ≤ l.pixels;
      whole : l.from < l.pixels → l.from % l.size ≡ 0;
      done : (k : ℕ) → k < l.from * 4 → get_or l.row k 0 ≡ runs l.size l.fn.row k;
      left : (k : ℕ) → l.from * 4 ≤ k → get_or l.row k 0 ≡ get_or l.fn.row k 0;
    }

abbrev pub decreases-loop-from : goal.decreases-loop-from
decreases-loop-from l = l.pixels - l.from
