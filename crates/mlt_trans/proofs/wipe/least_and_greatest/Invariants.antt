use Rattle.std.proofs.Common.{ℕ, ◌<◌, ◌≤◌, get_or}
use Rattle.mlt_trans.proofs.wipe.least_and_greatest.Given as goal

-- no share before this one is less than the least or greater than the greatest
abbrev pub invariant-loop-j : goal.invariant-loop-j
invariant-loop-j l =
    record {
      least : (i : ℕ) → i < l.j → l.least ≤ get_or l.shares i 0;
      greatest : (i : ℕ) → i < l.j → get_or l.shares i 0 ≤ l.greatest;
    }
