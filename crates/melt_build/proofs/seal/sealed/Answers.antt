use Rattle.std.proofs.Common.{◌++◌, [], ◌∷◌, length, ap, sym, ◌∙◌, subst}
use Rattle.mlt_base.specs.Try.{TryFails}
use Rattle.mlt_tree.specs.Units.{tractor_of}
use Rattle.mlt_graph.specs.Seal.{sealed_within}
use Rattle.melt_build.specs.Built.{checked}
use Rattle.melt_build.proofs.Sealed.{checked_as, checked_is, not_added, added_is, not_sealed, sealed_well}
use Rattle.melt_build.proofs.seal.sealed.Goals as goal

pub returns-in-Err-clause-value : goal.returns-in-Err-clause-value
returns-in-Err-clause-value c =
    let us = c.args.graph in let level = c.args.level in let places = c.args.places.now in
    subst (λ f. TryFails f (checked c.args.count places level (us ++ tractor_of level ∷ []) (length us))) (sym c.graph_refusal.ensures) (subst (TryFails _) (sym (checked_as c.args.count places level (us ++ tractor_of level ∷ []) (length us) c.requires.placed)) (not_added _ c.args.count places us level c.in-Err.fault c.in-Err.ensures.fault))

pub returns-in-Err-seal-clause-value : goal.returns-in-Err-seal-clause-value
returns-in-Err-seal-clause-value c =
    let us = c.args.graph in let level = c.args.level in let places = c.args.places.now in
    let all = us ++ tractor_of level ∷ [] in
    let added = added_is us level c.in-Ok.top c.in-Ok.ensures.fault in
    subst (λ f. TryFails f (checked c.args.count places level all (length us))) (sym c.graph_refusal-in-Err-seal.ensures) (subst (TryFails _) (sym (checked_as c.args.count places level all (length us) c.requires.placed ∙ checked_is c.args.count places us level all (length us) added)) (not_sealed c.args.count places all (length us) c.in-Err-seal.fault added.some (sym (ap (λ us. sealed_within us c.in-Ok.top.0) c.in-Ok.ensures.ok ∙ ap (λ top. sealed_within all top) c.in-Ok.ensures.id) ∙ sym c.seal.ensures ∙ c.in-Err-seal.is)))

pub returns-in-Ok-seal-clause-value : goal.returns-in-Ok-seal-clause-value
returns-in-Ok-seal-clause-value c =
    let us = c.args.graph in let level = c.args.level in let places = c.args.places.now in
    let all = us ++ tractor_of level ∷ [] in
    let added = added_is us level c.in-Ok.top c.in-Ok.ensures.fault in
    checked_as c.args.count places level all (length us) c.requires.placed ∙ checked_is c.args.count places us level all (length us) added ∙ sealed_well c.args.count all (length us) _ added.some (sym (ap (λ us. sealed_within us c.in-Ok.top.0) c.in-Ok.ensures.ok ∙ ap (λ top. sealed_within all top) c.in-Ok.ensures.id) ∙ sym c.seal.ensures ∙ c.in-Ok-seal.is)
