use Rattle.std.proofs.Common.{◌≡◌, drop}
use Rattle.std.specs.Prelude.{find}
use Rattle.mlt_tree.specs.Services.{is_merge}
use Rattle.melt_build.proofs.service.row_of_merge.Given as goal

-- none so far
abbrev pub invariant-loop-row : goal.invariant-loop-row
invariant-loop-row l = find (is_merge l.id) (drop l.row-index l.rows) ≡ find (is_merge l.id) l.rows
