use Rattle.std.proofs.Common.{◌≡◌, Option, sym, ap, ◌∙◌, subst}
use Rattle.mlt_tree.specs.Tree.{len}
use Rattle.mlt_tree.specs.Units.{node_tree, tree_of, tractor_of}
use Rattle.mlt_graph.specs.Drafts.{IsLevel}
use Rattle.mlt_graph.specs.Graph.{IsSized, tractor_fault}
use Rattle.mlt_graph.specs.declared.fault.GraphFault.{GraphFault}
use Rattle.mlt_graph.proofs.Placed.{makeable, fails, wants-memory, passes}
use Rattle.mlt_graph.proofs.Tractors.{IsTractor, tractor-is}
use Rattle.mlt_graph.proofs.graph.Graph.add_tractor.Goals.{After-fault}
use Rattle.mlt_graph.proofs.graph.Graph.add_tractor.Goals as goal

-- what the size of the tracks says
is : (c : After-fault) → IsTractor c.args.self.now c.args.level c.size-size.result
is c =
    let us = c.args.self.now in
    let sizes = c.self.inside.sizes.items in
    let sized : IsSized us sizes = subst (λ ns. IsSized ns sizes) c.self.view_is c.self.invariant.sized in
    rw (c.size-size.ensures, c.deref.ensures.value) (tractor-is us sizes c.args.level sized (subst IsLevel c.level.view_is c.level.invariant) c.requires c.tracks-count.ensures.lists)

-- why its tractor is refused, by its own length
abbrev asked : After-fault → Option GraphFault
asked c = tractor_fault c.args.level (len (node_tree (tree_of c.args.self.now) (tractor_of c.args.level)))

told : (c : After-fault) → c.fault.result ≡ asked c
told c = c.fault.ensures ∙ ap (tractor_fault c.args.level) (is c).length

pub returns-in-Some-clause-fault : goal.returns-in-Some-clause-fault
returns-in-Some-clause-fault c =
    let before = (goal.at.returns-in-Some-clause-fault c).After-fault in
    fails (asked before) c.in-Some.fault (sym (told before) ∙ c.in-Some.is)

pub returns-in_default-into_body-clause-fault : goal.returns-in_default-into_body-clause-fault
returns-in_default-into_body-clause-fault c =
    let before = (goal.at.returns-in_default-into_body-clause-fault c).After-fault in
    wants-memory (asked before) (sym (told before) ∙ c.in_default.is)

pub returns-in-Err-clause-fault : goal.returns-in-Err-clause-fault
returns-in-Err-clause-fault c =
    let before = (goal.at.returns-in-Err-clause-fault c).After-fault in
    wants-memory (asked before) (sym (told before) ∙ c.in_default.is)

pub returns-in-Ok-add-clause-fault : goal.returns-in-Ok-add-clause-fault
returns-in-Ok-add-clause-fault c =
    let before = (goal.at.returns-in-Ok-add-clause-fault c).After-fault in
    passes (asked before) _ (sym (told before) ∙ c.in_default.is)

pub add-requires-clause-below : goal.add-requires-clause-below
add-requires-clause-below c =
    let tractor = is (goal.at.add-requires-clause-below c).After-fault in
    let made = makeable c.args.level c.size-size.result.length (sym c.fault.ensures ∙ c.in_default.is) in
    rw (c.in-Ok.ensures.body) (tractor.below made.placed)

pub add-requires-clause-frames : goal.add-requires-clause-frames
add-requires-clause-frames c =
    let tractor = is (goal.at.add-requires-clause-frames c).After-fault in
    let made = makeable c.args.level c.size-size.result.length (sym c.fault.ensures ∙ c.in_default.is) in
    rw (c.in-Ok.ensures.body) (tractor.frames made.some)

pub add-requires-clause-size : goal.add-requires-clause-size
add-requires-clause-size c =
    let tractor = is (goal.at.add-requires-clause-size c).After-fault in
    rw (c.tractor.ensures, c.tracks-count.ensures.value, c.in-Ok.ensures.body) tractor.size
