use Rattle.std.proofs.Common.{◌≡◌, ◌<◌, [], length, get_or, set, ap, ◌∙◌, arith}
use Rattle.std.proofs.lemmas.List.{get_or_default}
use Rattle.mlt_tree.specs.declared.node.Node.{Node}
use Rattle.mlt_tree.specs.Units.{list_unit, with_filter, with_unit_filter}
use Rattle.mlt_graph.proofs.Changed.{built-filtered}
use Rattle.mlt_graph.proofs.graph.Graph.attach.Goals as goal

pub invariant_of-self-2 : goal.invariant_of-self-2
invariant_of-self-2 c =
    let nodes = c.self.inside.nodes.items in
    let sizes = c.self.inside.sizes.items in
    let weights = c.self.inside.weights.items in
    let starts = c.self.inside.starts.items in
    let unit = c.args.unit.0 in
    let filter = c.args.filter in
    let there : unit < length nodes = omega (arith, ap length c.self.view_is, c.requires.there) in
    let node_is : c.index_mut.result.now ≡ get_or nodes unit (list_unit []) =
    c.index_mut.ensures.value ∙ get_or_default nodes unit c.index_mut.result.now (list_unit []) there in
    let nodes_are : set nodes unit c.push_filter.new.node ≡ with_unit_filter nodes unit filter =
    ap (set nodes unit) (c.in_ok-push_filter.ensures.ok ∙ ap (λ (n : Node). with_filter n filter) node_is) in
    rw (nodes_are) (built-filtered nodes unit there sizes weights starts c.self.invariant filter c.requires.range)
