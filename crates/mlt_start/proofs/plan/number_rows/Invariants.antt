use Rattle.std.proofs.Common.{ℕ, ◌≡◌, ◌<◌, length, get_or}
use Rattle.mlt_start.proofs.plan.number_rows.Given as goal

-- the rows so far have their numbers
abbrev pub invariant-loop-row : goal.invariant-loop-row
invariant-loop-row l = record {
  long : length l.ends ≡ length l.initial.ends;
  each : (row : ℕ) → row < l.row → get_or l.ends row 0 ≡ row;
}
