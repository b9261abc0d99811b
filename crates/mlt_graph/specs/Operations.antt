-- How many operations a unit takes, against its weight.
use Rattle.std.specs.Prelude.{ℕ, ◌*◌, ◌≤◌, List}
use Rattle.mlt_tree.specs.declared.node.Node.{Node}
use Rattle.mlt_tree.specs.Sizes.{weight, ops}
use Rattle.mlt_tree.specs.Units.{tree_of, IsGraph}

-- no position of a unit takes more operations than twice the unit's weight
abbrev pub OperationsAreFew : Type 0
OperationsAreFew = (units : List Node) → IsGraph units → (unit : ℕ) → ops (tree_of units unit) ≤ 2 * weight (tree_of units unit)
