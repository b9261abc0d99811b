use Rattle.std.proofs.Common.{◌≡◌, drop}
use Rattle.std.specs.Prelude.{find}
use Rattle.mlt_tree.specs.Services.{ends_in}
use Rattle.melt_build.proofs.service.row_of_file.Given as goal

-- none so far
abbrev pub invariant-loop-row : goal.invariant-loop-row
invariant-loop-row l = find (λ row. ends_in l.file row.ending) (drop l.row-index l.rows) ≡ find (λ row. ends_in l.file row.ending) l.rows
