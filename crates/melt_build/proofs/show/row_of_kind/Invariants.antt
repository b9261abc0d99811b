use Rattle.std.proofs.Common.{◌≡◌, drop, find}
use Rattle.mlt_tree.specs.Table.{is_kind}
use Rattle.melt_build.proofs.show.row_of_kind.Given as goal

-- the rows so far are of another kind
abbrev pub invariant-loop-row : goal.invariant-loop-row
invariant-loop-row l =
    find (λ row. is_kind l.kind row.kind) (drop l.row-index l.rows) ≡ find (λ row. is_kind l.kind row.kind) l.rows
