use Rattle.std.proofs.Common.{◌≡◌, drop}
use Rattle.mlt_tree.specs.Unbuilt.{built_step}
use Rattle.mlt_tree.specs.Refusing.{over}
use Rattle.melt_build.proofs.built.all_built.Given as goal

-- all so far, and the rest
abbrev pub invariant-loop-group : goal.invariant-loop-group
invariant-loop-group l = over built_step tt (drop l.group-index l.groups) ≡ over built_step tt l.groups
