use Rattle.std.proofs.Common.{◌≡◌, ℕ, ◌+◌, ◌*◌, ◌<◌, ◌≤◌, length}
use Rattle.mlt_slice.specs.Rows.{row_of}
use Rattle.mlt_slice.proofs.each.ByRowsRowWork.work.Given as goal

-- the rows before this one are made, and the others are as they were
abbrev pub invariant-loop-k : goal.invariant-loop-k
invariant-loop-k g l =
    record {
      keeps : g.W.RowByRow.keeps l.self.work.now l.kept;
      done : (n : ℕ) → n < l.k → row_of l.row_bytes n l.band ≡ g.W.RowByRow.makes l.self.work.now (l.first_row + n) (row_of l.row_bytes n l.fn.band);
      left : (n : ℕ) → l.k ≤ n → (n + 1) * l.row_bytes ≤ length l.band → row_of l.row_bytes n l.band ≡ row_of l.row_bytes n l.fn.band;
    }
