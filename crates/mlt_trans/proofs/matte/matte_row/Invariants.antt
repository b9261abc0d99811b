use Rattle.std.proofs.Common.{◌≡◌, ℕ, ◌*◌, ◌<◌, ◌≤◌, get_or}
use Rattle.mlt_tree.specs.Merges.{matte}
use Rattle.mlt_trans.proofs.matte.matte_row.Given as goal

-- the pixels before this one have their new alphas, the others are as they were
abbrev pub invariant-loop-p : goal.invariant-loop-p
invariant-loop-p l =
    record {
      done : (k : ℕ) → 0 ≤ k → k < l.p * 4 → get_or l.row k 0 ≡ matte l.fn.row l.other k;
      left : (k : ℕ) → l.p * 4 ≤ k → get_or l.row k 0 ≡ get_or l.fn.row k 0;
    }
