use Rattle.std.proofs.Common.{◌≡◌, ℕ, ◌<◌, ◌≤◌, get_or}
use Rattle.mlt_base.specs.Mixing.{dissolved}
use Rattle.mlt_kernel.proofs.dissolve.dissolve_partly.Given as goal

-- the bytes before this one are dissolved, the others as they were
abbrev pub invariant-loop-i : goal.invariant-loop-i
invariant-loop-i l =
    record {
      done : (k : ℕ) → k < l.i → get_or l.dst k 0 ≡ dissolved l.q l.fn.dst l.src k;
      left : (k : ℕ) → l.i ≤ k → get_or l.dst k 0 ≡ get_or l.fn.dst k 0;
    }
