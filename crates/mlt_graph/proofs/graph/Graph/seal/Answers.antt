use Rattle.std.proofs.Common.{◌≡◌, ◌<◌, Result, Err, length, ap, ◌∙◌, subst, arith}
use Rattle.mlt_graph.specs.Seal.{sealed_within}
use Rattle.mlt_graph.specs.Sealed.{Shown}
use Rattle.mlt_graph.specs.Weights.{weight_of}
use Rattle.mlt_tree.specs.Units.{tree_of}
use Rattle.mlt_graph.specs.declared.fault.GraphFault.{GraphFault}
use Rattle.mlt_graph.specs.declared.fault.GraphFault.TheVariants.{TooDeep}
use Rattle.mlt_graph.proofs.Sealing.{too_deep, kept}
use Rattle.mlt_graph.proofs.graph.Graph.seal.Goals as goal

pub returns-then-size-gt-MOST_DEPTH : goal.returns-then-size-gt-MOST_DEPTH
returns-then-size-gt-MOST_DEPTH c =
    let us = c.self.inside.nodes.items in
    let top = c.args.top.0 in
    let size = c.index-size.result.now in
    let there : top < length us = omega (arith, ap length c.self.view_is, c.requires) in
    subst (λ us. ◌≡◌ {A = Result Shown GraphFault} (Err (TooDeep size.depth)) (sealed_within us top)) c.self.view_is
    (too_deep us c.self.inside.sizes.items top size c.self.invariant.sized there c.index-size.ensures c.if-size-gt-MOST_DEPTH.true)

pub new-requires-clause-kept : goal.new-requires-clause-kept
new-requires-clause-kept c =
    let us = c.self.inside.nodes.items in
    let there : c.args.top.0 < length us = omega (arith, ap length c.self.view_is, c.requires) in
    kept us c.self.inside.sizes.items c.args.top.0 c.index-size.result.now c.self.invariant.sized there c.index-size.ensures c.weight_of-weight.result
    (c.weight_of-weight.ensures ∙ ap (λ ns. weight_of (tree_of ns c.args.top.0)) c.deref.ensures.value)
    c.if-size-gt-MOST_DEPTH.false c.if-weight-gt-MOST_WEIGHT.false
