use Rattle.std.proofs.Common.{◌≡◌, drop}
use Rattle.std.specs.Prelude.{find}
use Rattle.mlt_tree.specs.Table.{is_of}
use Rattle.melt_run.proofs.prepared.first_of.Given as goal

-- none so far
abbrev pub invariant-loop-group : goal.invariant-loop-group
invariant-loop-group l = find (is_of l.kind) (drop l.group-index l.groups) ≡ find (is_of l.kind) l.groups
