use Rattle.std.proofs.Common.{◌≡◌, [], ◌∷◌, ◌++◌, ap, ◌∙◌, subst, arith}
use Rattle.mlt_graph.specs.Graph.{IsBuilt}
use Rattle.mlt_graph.proofs.Added.{built-push}
use Rattle.mlt_graph.proofs.graph.Graph.add.Goals as goal

pub invariant_of-self-2 : goal.invariant_of-self-2
invariant_of-self-2 c =
    let us = c.args.self.now in
    let body = c.args.body in
    let sizes = c.self.inside.sizes.items in
    let weights = c.self.inside.weights.items in
    let starts = c.self.inside.starts.items in
    let built : IsBuilt us sizes weights starts = subst (λ ns. IsBuilt ns sizes weights starts) c.self.view_is c.self.invariant in
    let nodes_are : c.push.new.self.items ≡ us ++ record { body = body; filters = [] } ∷ [] =
    c.in_ok-push.ensures.items ∙ ap (λ ns. ns ++ record { body = body; filters = c.new-filters.result } ∷ []) c.self.view_is ∙ ap (λ fs. us ++ record { body = body; filters = fs } ∷ []) c.new-filters.ensures in
    let sizes_are : c.push-2.new.self.items ≡ sizes ++ c.args.size ∷ [] =
    c.in_ok-push-2.ensures.items ∙ ap (λ ss. ss ++ c.args.size ∷ []) c.reserve.ensures.items in
    let weights_are : c.push-3.new.self.items ≡ weights ++ c.none.result ∷ [] =
    c.in_ok-push-3.ensures.items ∙ ap (λ ws. ws ++ c.none.result ∷ []) c.reserve-2.ensures.items in
    let starts_are : c.push-4.new.self.items ≡ starts ++ c.args.starts ∷ [] =
    c.in_ok-push-4.ensures.items ∙ ap (λ ss. ss ++ c.args.starts ∷ []) c.reserve-3.ensures.items in
    rw (nodes_are, sizes_are, weights_are, starts_are)
    (built-push us sizes weights starts body c.args.size c.none.result c.args.starts built (omega (arith, c.next_id-id.ensures, c.if-id.false)) c.requires.below c.requires.tracks c.requires.frames c.requires.size c.requires.starts)
