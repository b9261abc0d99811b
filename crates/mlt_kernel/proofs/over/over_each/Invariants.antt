use Rattle.std.proofs.Common.{◌≡◌, ℕ, ◌*◌, ◌<◌, ◌≤◌, get_or}
use Rattle.mlt_base.specs.Mixing.{laid_over}
use Rattle.mlt_kernel.proofs.over.over_each.Given as goal

-- the pixels from the first to before this one are laid over, the others as they were
abbrev pub invariant-loop-p : goal.invariant-loop-p
invariant-loop-p l =
    record {
      done : (k : ℕ) → l.from * 4 ≤ k → k < l.p * 4 → get_or l.dst k 0 ≡ laid_over l.opacity l.fn.dst l.src k;
      before : (k : ℕ) → k < l.from * 4 → get_or l.dst k 0 ≡ get_or l.fn.dst k 0;
      left : (k : ℕ) → l.p * 4 ≤ k → get_or l.dst k 0 ≡ get_or l.fn.dst k 0;
    }
