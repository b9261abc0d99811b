use Rattle.std.proofs.Common.{◌≡◌, ◌≤◌, drop, fold}
use Rattle.melt_build.specs.WordCount.{behind_group}
use Rattle.melt_build.proofs.show.behind_groups.Given as goal

-- behind the groups so far, and the rest
abbrev pub invariant-loop-group : goal.invariant-loop-group
invariant-loop-group l = record {
  rest : fold behind_group l.most (drop l.group-index l.groups) ≡ fold behind_group 0 l.groups;
  few : l.most ≤ 10001;
}
