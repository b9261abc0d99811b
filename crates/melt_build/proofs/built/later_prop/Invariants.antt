use Rattle.std.proofs.Common.{◌≡◌, drop}
use Rattle.std.specs.Prelude.{find}
use Rattle.mlt_tree.specs.Unbuilt.{is_later_prop}
use Rattle.melt_build.proofs.built.later_prop.Given as goal

-- none so far
abbrev pub invariant-loop-prop : goal.invariant-loop-prop
invariant-loop-prop l = find is_later_prop (drop l.prop-index l.props) ≡ find is_later_prop l.props
