use Rattle.std.proofs.Common.{◌≡◌, drop}
use Rattle.mlt_trans.specs.Columns.{is_kept}
use Rattle.mlt_trans.proofs.columns.find.Given as goal

-- whether they are kept among all is whether they are among the rest
abbrev pub invariant-loop-place : goal.invariant-loop-place
invariant-loop-place l = is_kept (drop l.place l.columns) (record { pixels = l.pixels; taken = l.taken }) ≡ is_kept l.columns (record { pixels = l.pixels; taken = l.taken })
