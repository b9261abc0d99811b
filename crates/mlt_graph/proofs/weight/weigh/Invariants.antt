use Rattle.std.proofs.Common.{◌≡◌, length}
use Rattle.mlt_tree.specs.Units.{tree_of}
use Rattle.mlt_graph.specs.Weights.{Weighs}
use Rattle.mlt_graph.proofs.weight.weigh.Given as goal

-- the lower units have their weights
abbrev pub invariant-loop-unit : goal.invariant-loop-unit
invariant-loop-unit l = record {
  long : length l.table ≡ length l.nodes;
  told : Weighs l.table (tree_of l.nodes) l.unit;
}
