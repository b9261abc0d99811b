use Rattle.std.proofs.Common.{◌≡◌, ℕ, ◌+◌, ◌-◌, ◌*◌, ◌/◌, ◌<◌, ◌≤◌, get_or}
use Rattle.mlt_kernel.proofs.scale.darken_block.Given as goal

-- the bytes from the first to before this one are shares, the others as they were
abbrev pub invariant-loop-i : goal.invariant-loop-i
invariant-loop-i l =
    record {
      done : (k : ℕ) → l.from ≤ k → k < l.i → get_or l.dst k 0 ≡ (get_or l.fn.dst k 0 * get_or l.shares (k - l.from) 0 + 32768) / 65536;
      before : (k : ℕ) → k < l.from → get_or l.dst k 0 ≡ get_or l.fn.dst k 0;
      left : (k : ℕ) → l.i ≤ k → get_or l.dst k 0 ≡ get_or l.fn.dst k 0;
    }
