use Rattle.std.proofs.Common.{◌≡◌, ℕ, ◌*◌, ◌%◌, ◌<◌, ◌≤◌, ◌==◌, if◌then◌else◌, length, get_or}
use Rattle.mlt_kernel.proofs.scale.shares_of.Given as goal

-- the alphas before this pixel have their share, all else has the level
abbrev pub invariant-loop-p : goal.invariant-loop-p
invariant-loop-p l =
    record {
      long : length l.shares ≡ 256;
      done : (k : ℕ) → k < l.p * 4 → get_or l.shares k 0 ≡ (if k % 4 == 3 then 65535 else l.level);
      left : (k : ℕ) → l.p * 4 ≤ k → k < 256 → get_or l.shares k 0 ≡ l.level;
    }
