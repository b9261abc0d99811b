use Rattle.std.proofs.Common.{◌≡◌, [], ◌∷◌, length, sym, ap, ◌∙◌, subst}
use Rattle.mlt_tree.specs.declared.node.Body.{Body}
use Rattle.mlt_tree.specs.declared.node.Body.TheVariants.{Tractor}
use Rattle.mlt_tree.specs.declared.node.Track.TheVariants.{Half}
use Rattle.mlt_tree.specs.Units.{mix_unit, node_tree, tree_of, body_depth, depth_of}
use Rattle.mlt_graph.specs.Graph.{IsSized}
use Rattle.mlt_graph.specs.Sizes.{mix_size, size_of}
use Rattle.mlt_graph.proofs.Added.{mix-below, mix-length, mix-size}
use Rattle.mlt_graph.proofs.graph.Graph.add_mix.Goals as goal

pub add-requires-clause-below : goal.add-requires-clause-below
add-requires-clause-below c =
    rw (c.in_ok-halves.ensures, c.new.ensures) (mix-below (length c.args.self.now) c.args.parts.a c.args.parts.b c.args.parts.frames c.requires.below)

pub add-requires-clause-frames : goal.add-requires-clause-frames
add-requires-clause-frames c =
    rw (c.in_ok-halves.ensures, c.new.ensures)
    (mix-length (tree_of c.args.self.now) (length c.args.self.now) c.args.parts.a c.args.parts.b c.args.parts.frames c.requires.below c.requires.halves.0 c.requires.halves.1)

pub add-requires-clause-size : goal.add-requires-clause-size
add-requires-clause-size c =
    let us = c.args.self.now in
    let a = c.args.parts.a in
    let b = c.args.parts.b in
    let n = c.args.parts.frames in
    let sizes = c.self.inside.sizes.items in
    let sized : IsSized us sizes = subst (λ ns. IsSized ns sizes) c.self.view_is c.self.invariant.sized in
    let body_is : Tractor c.in_ok-halves.field-0 c.new.result ≡ (mix_unit a b n).body =
    ap (λ tracks. Tractor tracks c.new.result) c.in_ok-halves.ensures ∙ ap (Tractor (Half a n ∷ Half b n ∷ [])) c.new.ensures in
    c.size_of_mix-size.ensures
    ∙ ap (λ table. mix_size table a b) c.deref.ensures.value
    ∙ subst (λ (body : Body). mix_size sizes a b ≡ size_of (node_tree (tree_of us) (record { body = body; filters = [] })) (body_depth (depth_of us) body)) (sym body_is)
    (mix-size us sizes a b n sized c.requires.below)
