use Rattle.std.proofs.Common.{◌≡◌, ℕ, ◌+◌, ◌-◌, ◌*◌, ◌/◌, ◌<◌, ◌≤◌, get_or}
use Rattle.mlt_base.specs.Mixing.{blended}
use Rattle.mlt_trans.proofs.wipe.turn_each.Given as goal

-- the pixels from the first to before this one are mixed, the others as they were
abbrev pub invariant-loop-j : goal.invariant-loop-j
invariant-loop-j l =
    record {
      done : (k : ℕ) → l.from * 4 ≤ k → k < (l.from + l.j) * 4 → get_or l.row k 0 ≡ blended (get_or l.found (k / 4 - l.from) 0) (get_or l.fn.row k 0) (get_or l.other k 0);
      before : (k : ℕ) → k < l.from * 4 → get_or l.row k 0 ≡ get_or l.fn.row k 0;
      left : (k : ℕ) → (l.from + l.j) * 4 ≤ k → get_or l.row k 0 ≡ get_or l.fn.row k 0;
    }
