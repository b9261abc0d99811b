use Rattle.std.proofs.Common.{length, arith}
use Rattle.mlt_graph.proofs.WeightLemmas.{body_below-more, weighs-next}
use Rattle.mlt_graph.proofs.weight.weigh.Goals as goal

pub of_node-requires : goal.of_node-requires
of_node-requires c =
    body_below-more c.loop-unit.unit (length c.loop-unit.table) c.index-nodes-unit.result.body (omega (arith, c.loop-unit.invariant.long))
    (c.requires.graph.bodies c.loop-unit.unit c.index-nodes-unit.result c.loop-unit-test.true c.index-nodes-unit.is)

pub loop-unit-preserved : goal.loop-unit-preserved
loop-unit-preserved c =
    let next = weighs-next c.args.nodes.now c.loop-unit.table c.loop-unit.unit c.index-nodes-unit.result c.of_node.result c.requires.graph c.loop-unit.invariant.long c.loop-unit.invariant.told c.loop-unit-test.true c.index-nodes-unit.is c.of_node.ensures in
    record { long = next.long; told = next.told }
