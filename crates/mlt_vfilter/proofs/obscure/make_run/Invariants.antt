use Rattle.std.proofs.Common.{◌≡◌, ℕ, ◌+◌, ◌*◌, ◌%◌, ◌<◌, ◌≤◌, get_or}
use Rattle.mlt_vfilter.proofs.obscure.make_run.Given as goal

-- the pixels from the first to before this one have its colour, the others as they were
abbrev pub invariant-loop-p : goal.invariant-loop-p
invariant-loop-p l =
    record {
      done : (k : ℕ) → l.from * 4 ≤ k → k < l.p * 4 → get_or l.row k 0 ≡ get_or l.fn.row (l.from * 4 + k % 4) 0;
      before : (k : ℕ) → k < l.from * 4 → get_or l.row k 0 ≡ get_or l.fn.row k 0;
      left : (k : ℕ) → l.p * 4 ≤ k → get_or l.row k 0 ≡ get_or l.fn.row k 0;
    }
