use Rattle.std.proofs.Common.{◌≡◌, ℕ, ◌*◌, ◌<◌, ◌≤◌, get_or}
use Rattle.mlt_base.specs.Mixing.{scaled}
use Rattle.mlt_kernel.proofs.scale.brighten.Given as goal

-- the pixels before this one are scaled, the others as they were
abbrev pub invariant-loop-p : goal.invariant-loop-p
invariant-loop-p l =
    record {
      done : (k : ℕ) → k < l.p * 4 → get_or l.dst k 0 ≡ scaled l.level l.fn.dst k;
      left : (k : ℕ) → l.p * 4 ≤ k → get_or l.dst k 0 ≡ get_or l.fn.dst k 0;
    }
