use Rattle.std.proofs.Common.{◌≡◌, ◌≤◌, replicate, vec_capacity}
use Rattle.mlt_trans.specs.Columns.{no_columns}
use Rattle.mlt_trans.proofs.columns.KeptColumns.new.Given as goal

-- as many as were gone through are there, and there is room for all
abbrev pub invariant-loop : goal.invariant-loop
invariant-loop l = (l.columns.items ≡ replicate l.counter no_columns) × (8 ≤ vec_capacity l.columns)
