use Rattle.std.proofs.Common.{◌≡◌, ℕ, ◌+◌, ◌*◌, ◌<◌, ◌≤◌, get_or}
use Rattle.mlt_vfilter.proofs.Squares.{square}
use Rattle.mlt_vfilter.proofs.obscure.obscure.Given as goal

-- the rows before this one are obscured, the others as they were
abbrev pub invariant-loop-y : goal.invariant-loop-y
invariant-loop-y l =
    record {
      done : (n i : ℕ) → n < l.y → i < l.row_bytes → get_or l.picture (n * l.row_bytes + i) 0 ≡ square l.size l.row_bytes l.fn.picture n i;
      left : (j : ℕ) → l.y * l.row_bytes ≤ j → get_or l.picture j 0 ≡ get_or l.fn.picture j 0;
    }
