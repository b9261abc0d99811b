use Rattle.std.proofs.Common.{◌≡◌, ◌++◌, drop}
use Rattle.std.specs.Option.{option_copied, option_to_list}
use Rattle.mlt_tree.specs.Table.{of_kind}
use Rattle.melt_build.proofs.groups.first_two.Given as goal

-- of the groups of the kind, the one that is found so far, and those of the rest
abbrev pub invariant-loop-group : goal.invariant-loop-group
invariant-loop-group l =
    of_kind l.kind l.groups ≡ option_to_list (option_copied l.first) ++ of_kind l.kind (drop l.group-index l.groups)
