-- Sealing: refused where the unit is nested too deep, and then where it is too heavy.
use Rattle.std.specs.Prelude.{ℕ, nat_lt, if◌then◌else◌, List, Result, Ok, Err}
use Rattle.mlt_base.specs.declared.limits.TheConstants.{MOST_DEPTH, MOST_WEIGHT}
use Rattle.mlt_tree.specs.declared.node.Node.{Node}
use Rattle.mlt_tree.specs.Sizes.{weight}
use Rattle.mlt_tree.specs.Units.{tree_of, depth_of}
use Rattle.mlt_graph.specs.declared.fault.GraphFault.{GraphFault}
use Rattle.mlt_graph.specs.declared.fault.GraphFault.TheVariants.{TooDeep, TooMany}
use Rattle.mlt_graph.specs.Sealed.{Shown}

abbrev pub sealed_within : List Node → ℕ → Result Shown GraphFault
sealed_within units top =
    if nat_lt MOST_DEPTH (depth_of units top) then Err (TooDeep (depth_of units top)) else (if nat_lt MOST_WEIGHT (weight (tree_of units top)) then Err (TooMany MOST_WEIGHT) else Ok (record { units = units; top = top }))
