use Rattle.std.proofs.Common.{◌<◌, length}
use Rattle.mlt_graph.proofs.tests.nest.Given as goal

abbrev pub invariant-loop-list : goal.invariant-loop-list
invariant-loop-list l = l.unit.0 < length l.graph
