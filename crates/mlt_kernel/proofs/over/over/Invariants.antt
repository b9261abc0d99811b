use Rattle.std.proofs.Common.{◌≡◌, ℕ, ◌-◌, ◌*◌, ◌<◌, ◌≤◌, get_or}
use Rattle.mlt_base.specs.Mixing.{laid_over}
use Rattle.mlt_kernel.proofs.over.over.Given as goal

-- the blocks before this one are laid over, the others as they were
abbrev pub invariant-loop-from : goal.invariant-loop-from
invariant-loop-from l =
    record {
      within : l.from ≤ l.pixels;
      done : (k : ℕ) → k < l.from * 4 → get_or l.dst k 0 ≡ laid_over l.opacity l.fn.dst l.src k;
      left : (k : ℕ) → l.from * 4 ≤ k → get_or l.dst k 0 ≡ get_or l.fn.dst k 0;
    }

abbrev pub decreases-loop-from : goal.decreases-loop-from
decreases-loop-from l = l.pixels - l.from
