use Rattle.std.proofs.Common.{◌≡◌, ℕ, ◌-◌, ◌%◌, ◌<◌, ◌≤◌, length, get_or}
use Rattle.mlt_base.specs.Mixing.{scaled}
use Rattle.mlt_kernel.proofs.scale.darken.Given as goal

-- the blocks before this one are scaled, the others as they were
abbrev pub invariant-loop-from : goal.invariant-loop-from
invariant-loop-from l =
    record {
      within : l.from ≤ length l.dst;
      pixel : l.from < length l.dst → l.from % 4 ≡ 0;
      done : (k : ℕ) → k < l.from → get_or l.dst k 0 ≡ scaled l.level l.fn.dst k;
      left : (k : ℕ) → l.from ≤ k → get_or l.dst k 0 ≡ get_or l.fn.dst k 0;
    }

abbrev pub decreases-loop-from : goal.decreases-loop-from
decreases-loop-from l = length l.dst - l.from
