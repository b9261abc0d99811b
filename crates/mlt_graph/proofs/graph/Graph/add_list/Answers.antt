use Rattle.std.proofs.Common.{◌∙◌, ap, subst}
use Rattle.mlt_tree.specs.Units.{tree_of}
use Rattle.mlt_graph.specs.Graph.{IsSized}
use Rattle.mlt_graph.specs.Sizes.{list_size}
use Rattle.mlt_graph.proofs.Added.{list_unit-length, list_unit-size}
use Rattle.mlt_graph.proofs.graph.Graph.add_list.Goals as goal

pub add-requires-clause-frames : goal.add-requires-clause-frames
add-requires-clause-frames c = list_unit-length (tree_of c.args.self.now) c.args.entries c.requires.some c.requires.short

pub add-requires-clause-size : goal.add-requires-clause-size
add-requires-clause-size c =
    let sizes = c.self.inside.sizes.items in
    let sized : IsSized c.args.self.now sizes = subst (λ ns. IsSized ns sizes) c.self.view_is c.self.invariant.sized in
    c.list-size.ensures
    ∙ ap list_size c.of_entries.ensures
    ∙ rw (c.deref.ensures.value, c.as_slice.ensures) (list_unit-size c.args.self.now sizes c.args.entries sized c.requires.below.below)
