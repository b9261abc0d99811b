use Rattle.std.proofs.Common.{◌≡◌, ◌≤◌, length, drop, None}
use Rattle.mlt_start.specs.Code.{highest}
use Rattle.mlt_start.proofs.plan.highest_row.Given as goal

-- the rows from here on have nothing
abbrev pub invariant-loop-row : goal.invariant-loop-row
invariant-loop-row l = record {
  within : l.row ≤ length l.has;
  nothing : highest (drop l.row l.has) ≡ None;
}

abbrev pub decreases-loop-row : goal.decreases-loop-row
decreases-loop-row l = l.row
