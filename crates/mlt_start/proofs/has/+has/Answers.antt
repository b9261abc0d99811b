use Rattle.std.proofs.Common.{◌≡◌, ◌∙◌, ◌-◌, ◌+◌, length, drop, get_or, map, is_some, All, None, rules, arith, sym, ap, subst}
use Rattle.std.proofs.lemmas.List.Elements.{recursion_from_All}
use Rattle.std.specs.List.{AllByRecursion}
use Rattle.mlt_tree.specs.Units.{IsEntryBelow, IsTrackBelow, IsOnTracks, tree_of, body_tree, entries_of, tracks_of}
use Rattle.mlt_graph.specs.Lists.{lists_of}
use Rattle.mlt_graph.proofs.Trees.{tree_of-step}
use Rattle.mlt_start.specs.Asked.{medium_of}
use Rattle.mlt_start.specs.Code.{code, rows_code}
use Rattle.mlt_start.specs.Found.{shown_code}
use Rattle.mlt_start.proofs.Having.{has-rows, has-track, has-unit}
use Rattle.mlt_start.proofs.Plans.{length-track_rows}
use Rattle.mlt_start.proofs.Walked.{found-in, none_found-in, row-list}
use Rattle.mlt_start.proofs.has.+has.Goals as goal

pub has_body-has_tracks-requires : goal.has_body-has_tracks-requires
has_body-has_tracks-requires t c =
    let members = rw c.in-Tractor.is at c.requires.body_below in
    let lists = rw c.in-Tractor.is at c.requires.lists in (
      search rules,
      (
        c.requires.known,
        (
          subst (All (IsTrackBelow c.args.unit)) (sym c.as_slice-in-Tractor.ensures) members.tracks_below,
          subst (λ ts. lists_of c.args.sealed.now.units c.args.unit ≡ map entries_of ts) (sym c.as_slice-in-Tractor.ensures) lists,
        ),
      ),
    )

pub has_body-returns-in-Tractor : goal.has_body-returns-in-Tractor
has_body-returns-in-Tractor t c =
    let v = medium_of c.args.asked in
    let units = tree_of c.args.sealed.now.units in
    let members = rw c.in-Tractor.is at c.requires.body_below in
    let tracks = c.in-Tractor.tracks in
    let cs = rows_code v (tracks_of units tracks) c.args.at in
    let on = subst (λ n. AllByRecursion (IsOnTracks n) c.in-Tractor.plants) (sym (length-track_rows v units tracks c.args.at)) (recursion_from_All (IsOnTracks (length tracks)) c.in-Tractor.plants members.on_tracks) in
    let told = subst (λ ts. c.has_tracks.result ≡ is_some (shown_code v units c.args.at ts)) c.as_slice-in-Tractor.ensures c.has_tracks.ensures in
    told ∙ sym (has-rows v c.args.at cs c.in-Tractor.plants on) ∙ ap (λ b. is_some (code v (body_tree units b) c.args.at)) (sym c.in-Tractor.is)

pub has_entries-offset_bounds-entries-index : goal.has_entries-offset_bounds-entries-index
has_entries-offset_bounds-entries-index t c =
    let inside = (found-in (medium_of c.args.asked) (tree_of c.args.sealed.now.units) c.args.sealed.now.units c.args.unit c.args.list c.args.entries.now c.args.at c.requires.list c.in-Some.index c.in-Some.place c.in-Some.ensures).inside in
    search rules

pub has_entries-bounds-entries-index : goal.has_entries-bounds-entries-index
has_entries-bounds-entries-index t c =
    (found-in (medium_of c.args.asked) (tree_of c.args.sealed.now.units) c.args.sealed.now.units c.args.unit c.args.list c.args.entries.now c.args.at c.requires.list c.in-Some.index c.in-Some.place c.in-Some.ensures).inside

pub has_entries-has_entry-requires : goal.has_entries-has_entry-requires
has_entries-has_entry-requires t c =
    let at = found-in (medium_of c.args.asked) (tree_of c.args.sealed.now.units) c.args.sealed.now.units c.args.unit c.args.list c.args.entries.now c.args.at c.requires.list c.in-Some.index c.in-Some.place c.in-Some.ensures in
    let e = c.index-entries-index.result in
    let is = c.index-entries-index.is in
    (search rules, (omega (arith, c.requires.known), (subst (IsEntryBelow c.args.unit) (sym is) (c.requires.entries_below.below c.in-Some.index e at.inside), at.place e is)))

pub has_entries-returns-in-Some : goal.has_entries-returns-in-Some
has_entries-returns-in-Some t c =
    let at = found-in (medium_of c.args.asked) (tree_of c.args.sealed.now.units) c.args.sealed.now.units c.args.unit c.args.list c.args.entries.now c.args.at c.requires.list c.in-Some.index c.in-Some.place c.in-Some.ensures in
    c.has_entry.ensures ∙ ap is_some (sym (at.same c.index-entries-index.result c.index-entries-index.is))

pub has_entries-returns-in-None : goal.has_entries-returns-in-None
has_entries-returns-in-None t c =
    ap is_some (sym (none_found-in (medium_of c.args.asked) (tree_of c.args.sealed.now.units) c.args.sealed.now.units c.args.unit c.args.list c.args.entries.now c.args.at c.requires.list c.in-None.ensures))

pub has_tracks-has_track-requires : goal.has_tracks-has_track-requires
has_tracks-has_track-requires t c =
    let track = c.index-tracks-row.result in
    let each = c.requires.tracks_below (c.loop-row.row - 1) track (omega arith) in
    let list = row-list c.args.sealed.now.units c.args.unit (c.loop-row.row - 1) c.args.tracks.now track c.requires.lists (omega arith) c.index-tracks-row.is in
    (search rules, (c.requires.known, (subst (IsTrackBelow c.args.unit) (sym c.index-tracks-row.is) each, list)))

pub has_tracks-returns-then-has_track : goal.has_tracks-returns-then-has_track
has_tracks-returns-then-has_track t c =
    let v = medium_of c.args.asked in
    let units = tree_of c.args.sealed.now.units in
    let row = c.loop-row.row in
    let next : row - 1 + 1 ≡ row = omega arith in
    let above = subst (λ n. shown_code v units c.args.at (drop n c.args.tracks.now) ≡ None) (sym next) c.loop-row.invariant.nothing in
    has-track v units c.args.at c.args.tracks.now (row - 1) c.index-tracks-row.result (omega arith) c.index-tracks-row.is above (sym c.if-has_track.true ∙ c.has_track.ensures)

pub has_unit-returns : goal.has_unit-returns
has_unit-returns t c =
    let units = c.args.sealed.now.units in
    let node = c.index-units-unit.result in
    let at = subst (λ us. node ≡ get_or us c.args.unit node) c.units.ensures.units c.index-units-unit.is in
    let step = tree_of-step units c.args.unit node c.units.ensures.sealed.graph c.requires.known at in
    has-unit (medium_of c.args.asked) (tree_of units c.args.unit) (body_tree (tree_of units) node.body) node.filters c.args.at c.has_body.result step c.has_body.ensures
