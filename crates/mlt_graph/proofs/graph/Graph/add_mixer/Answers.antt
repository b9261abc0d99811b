use Rattle.std.proofs.Common.{◌≡◌, ◌<◌, ◌^◌, List, [], get_or, set, sym, ap, ◌∙◌, subst}
use Rattle.std.proofs.lemmas.List.{get_or_default}
use Rattle.mlt_tree.specs.declared.node.Node.{Node}
use Rattle.mlt_tree.specs.Units.{list_unit, mix_frames, with_merge, IsMix}
use Rattle.mlt_graph.proofs.Changed.{built-mixed}
use Rattle.mlt_graph.proofs.graph.Graph.add_mixer.Goals as goal

pub invariant_of-self-2 : goal.invariant_of-self-2
invariant_of-self-2 c =
    let nodes = c.self.inside.nodes.items in
    let sizes = c.self.inside.sizes.items in
    let weights = c.self.inside.weights.items in
    let starts = c.self.inside.starts.items in
    let unit = c.args.unit.0 in
    let spec = c.args.spec in
    let mix : IsMix nodes unit = subst (λ (ns : List Node). IsMix ns unit) (sym c.self.view_is) c.requires.mix in
    let node_is : c.index_mut.result.now ≡ get_or nodes unit (list_unit []) =
    c.index_mut.ensures.value ∙ get_or_default nodes unit c.index_mut.result.now (list_unit []) mix.there in
    let nodes_are : set nodes unit c.push_mixer.new.node ≡ set nodes unit (with_merge (get_or nodes unit (list_unit [])) spec) =
    ap (set nodes unit) (c.in_ok-push_mixer.ensures.ok ∙ ap (λ (n : Node). with_merge n spec) node_is) in
    rw (nodes_are) (built-mixed nodes unit mix.there sizes weights starts c.self.invariant spec (subst (λ (n : Node). mix_frames n.body < 2 ^ 32) node_is c.push_mixer.ensures.short) mix.mix c.requires.range)
