use Rattle.std.proofs.Common.{◌≡◌, drop}
use Rattle.std.specs.List.{find}
use Rattle.mlt_base.specs.Profile.{is_named}
use Rattle.mlt_base.proofs.table.row_named.Given as goal

-- no row passed has the name
abbrev pub invariant-loop-row : goal.invariant-loop-row
invariant-loop-row l = find (is_named l.name) (drop l.row-index l.rows) ≡ find (is_named l.name) l.rows
