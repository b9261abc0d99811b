use Rattle.mlt_graph.proofs.Bounds.{ops-le}
use Rattle.mlt_graph.proofs.laws.operations_are_few.Goals as goal

pub returns : goal.returns
returns c = ops-le
