use Rattle.std.proofs.Common.{◌≡◌, drop, fold}
use Rattle.std.specs.Option.{option_copied}
use Rattle.mlt_tree.specs.Props.{later}
use Rattle.melt_build.proofs.props.last_in.Given as goal

-- what is found so far, and the rest
abbrev pub invariant-loop-prop : goal.invariant-loop-prop
invariant-loop-prop l =
    fold (later l.name) (option_copied l.last) (drop l.prop-index l.props) ≡ fold (later l.name) (option_copied l.fn.found) l.props
