use Rattle.std.proofs.Common.{◌≡◌, ◌<◌, length, get_or, map, sym, ap, ◌∙◌, subst, arith}
use Rattle.mlt_tree.specs.Ranges.{frames}
use Rattle.mlt_graph.specs.Lists.{lists_of, list_of}
use Rattle.mlt_graph.specs.Sealed.{Shown}
use Rattle.mlt_graph.proofs.ListLemmas.{list-within, list-read}
use Rattle.mlt_graph.proofs.sealed.Sealed.starts.Goals as goal
use Rattle.mlt_graph.proofs.sealed.Sealed.starts.Goals.{After-as_slice}

-- the list is there
there : (c : After-as_slice) → c.args.list < length (lists_of c.self.inside.nodes.items c.args.unit)
there c = subst (λ (s : Shown). c.args.list < length (lists_of s.units c.args.unit)) (sym c.self.view_is) c.requires

-- and so are its starts
within : (c : After-as_slice) → c.args.list < length c.as_slice.result.now
within c =
    let inside = list-within c.self.inside.nodes.items c.self.inside.starts.items c.self.invariant.1 c.args.unit c.args.list (there c) c.index.result.now c.index.ensures in
    omega (arith, inside, ap length c.as_slice.ensures)

pub offset_bounds-as_slice-list : goal.offset_bounds-as_slice-list
offset_bounds-as_slice-list c = omega (arith, within c, c.as_slice.type_inv.1)

pub bounds-as_slice-list : goal.bounds-as_slice-list
bounds-as_slice-list c = within c

pub returns : goal.returns
returns c =
    let before = (goal.at.returns c).After-as_slice in
    let one = c.index-as_slice-list.result in
    let read = list-read c.self.inside.nodes.items c.self.inside.starts.items c.self.invariant.1 c.args.unit c.args.list (there before) c.index.result.now c.index.ensures one (subst (λ l. one ≡ get_or l c.args.list one) c.as_slice.ensures c.index-as_slice-list.is) in
    read ∙ ap (λ (s : Shown). map frames (list_of s.units c.args.unit c.args.list)) c.self.view_is
