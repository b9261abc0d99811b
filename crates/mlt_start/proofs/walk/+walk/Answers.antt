use Rattle.std.proofs.Common.{ℕ, ◌≡◌, ◌≤◌, ◌+◌, ◌-◌, ◌∙◌, cond, nat_eq, nat_lt, length, drop, get_or, None, false, true, rules, arith, sym, ap, subst}
use Rattle.std.specs.List.{flat_map}
use Rattle.mlt_tree.specs.Ranges.{IsEntry}
use Rattle.mlt_tree.specs.Sizes.{ops as ops_of}
use Rattle.mlt_tree.specs.Sizes.{ops_in}
use Rattle.mlt_tree.specs.Units.{IsEntryBelow, IsTrackBelow, tree_of, body_tree, parts_of, track_tree, tracks_of}
use Rattle.mlt_graph.specs.Graph.{HasFewTracks}
use Rattle.mlt_graph.proofs.Trees.{tree_of-step}
use Rattle.mlt_start.specs.Asked.{medium_of}
use Rattle.mlt_start.specs.Code.{keep_ops, code, code_in, rows_code, filter_ops}
use Rattle.mlt_start.specs.Found.{row_code, shown_code}
use Rattle.mlt_start.specs.Pushed.{IsAbove, IsPushed}
use Rattle.mlt_start.proofs.Counted.{code-few, code_in-few, row_ops-few, row_code-few, few-plants, few-keep, some-ops}
use Rattle.mlt_start.proofs.Planted.{IsPlanted}
use Rattle.mlt_start.proofs.Plans.{length-track_rows, planned-inside, pushed-planned, row-pushed, row-room, rows-room, left-above}
use Rattle.mlt_start.proofs.UnitTrees.{length-tracks, unit-planted, unit-parts-planted, unit-track-planted, unit-tracks-planted}
use Rattle.mlt_start.proofs.Walked.{found-in, none_found-in, row-list, row-few, pushed-row, pushed-nothing, pushed-on, pushed-none, pushed-filters, spare-left, unit-lists}
use Rattle.mlt_start.proofs.walk.+walk.Goals as goal

pub push_entries-offset_bounds-entries-index : goal.push_entries-offset_bounds-entries-index
push_entries-offset_bounds-entries-index t c =
    let inside = (found-in (medium_of c.args.asked) (tree_of c.args.sealed.now.units) c.args.sealed.now.units c.args.unit c.args.list c.args.entries.now c.args.at c.requires.list c.in-Some.index c.in-Some.place c.in-Some.ensures).inside in
    search rules

pub push_entries-bounds-entries-index : goal.push_entries-bounds-entries-index
push_entries-bounds-entries-index t c =
    (found-in (medium_of c.args.asked) (tree_of c.args.sealed.now.units) c.args.sealed.now.units c.args.unit c.args.list c.args.entries.now c.args.at c.requires.list c.in-Some.index c.in-Some.place c.in-Some.ensures).inside

pub push_entries-push_entry-requires : goal.push_entries-push_entry-requires
push_entries-push_entry-requires t c =
    let at = found-in (medium_of c.args.asked) (tree_of c.args.sealed.now.units) c.args.sealed.now.units c.args.unit c.args.list c.args.entries.now c.args.at c.requires.list c.in-Some.index c.in-Some.place c.in-Some.ensures in
    let e = c.index-entries-index.result in
    let is = c.index-entries-index.is in
    let few = at.few e is in
    (search rules, (c.requires.graph, (omega (arith, c.requires.known), (subst (IsEntryBelow c.args.unit) (sym is) (c.requires.entries_below.below c.in-Some.index e at.inside), (subst IsEntry (sym is) (c.requires.entries_below.ranges c.in-Some.index e at.inside), (at.place e is, omega (arith, few, c.requires.room)))))))

pub push_entries-returns-in-Some : goal.push_entries-returns-in-Some
push_entries-returns-in-Some t c =
    let at = found-in (medium_of c.args.asked) (tree_of c.args.sealed.now.units) c.args.sealed.now.units c.args.unit c.args.list c.args.entries.now c.args.at c.requires.list c.in-Some.index c.in-Some.place c.in-Some.ensures in
    subst (λ o. IsPushed o c.args.stack.now c.push_entry.new.stack c.push_entry.result) (sym (at.same c.index-entries-index.result c.index-entries-index.is)) c.push_entry.ensures

pub push_entries-returns-in-None : goal.push_entries-returns-in-None
push_entries-returns-in-None t c =
    let units = tree_of c.args.sealed.now.units in
    pushed-nothing (code_in (medium_of c.args.asked) (parts_of units c.args.entries.now) c.args.at) c.args.stack.now
    (none_found-in (medium_of c.args.asked) units c.args.sealed.now.units c.args.unit c.args.list c.args.entries.now c.args.at c.requires.list c.in-None.ensures)

pub push_entry-put_filters-requires : goal.push_entry-put_filters-requires
push_entry-put_filters-requires t c =
    let v = medium_of c.args.asked in
    let inner = tree_of c.args.sealed.now.units c.in-Clip.unit.0 in
    let room = rw c.in-Clip.is at c.requires.room in
    let fits : ops_of inner + length c.in-Clip.filters ≤ c.args.stack.now.spare = omega (arith, room) in
    let left = spare-left (ops_of inner) (length c.in-Clip.filters) (code v inner c.frame_at-at.result) c.args.stack.now c.push_unit.new.stack c.push_unit.result (code-few v inner (unit-planted c.args.sealed.now.units c.requires.graph c.in-Clip.unit.0) c.frame_at-at.result) fits c.push_unit.ensures in
    subst (λ fs. length fs ≤ c.push_unit.new.stack.spare) (sym c.as_slice.ensures) left

pub push_track-put_filters-requires : goal.push_track-put_filters-requires
push_track-put_filters-requires t c =
    let v = medium_of c.args.asked in
    let units = tree_of c.args.sealed.now.units in
    let entries = c.in-Playlist.entries in
    let filters = c.in-Playlist.filters in
    let room : ops_in (parts_of units entries) + length filters ≤ c.args.stack.now.spare = rw c.in-Playlist.is at c.requires.room in
    let pushed = subst (λ es. IsPushed (code_in v (parts_of units es) c.args.at) c.args.stack.now c.push_entries.new.stack c.push_entries.result) c.as_slice.ensures c.push_entries.ensures in
    let few = code_in-few v (parts_of units entries) (unit-parts-planted c.args.sealed.now.units c.requires.graph entries) c.args.at in
    let left = spare-left (ops_in (parts_of units entries)) (length filters) (code_in v (parts_of units entries) c.args.at) c.args.stack.now c.push_entries.new.stack c.push_entries.result few room pushed in
    subst (λ fs. length fs ≤ c.push_entries.new.stack.spare) (sym c.as_slice-in-Playlist.ensures) left

pub push_tracks-push_track-requires : goal.push_tracks-push_track-requires
push_tracks-push_track-requires t c =
    let track = c.index-tracks-row.result in
    let each = c.requires.tracks_below (c.loop-row.row - 1) track (omega arith) in
    let list = row-list c.args.sealed.now.units c.args.unit (c.loop-row.row - 1) c.args.tracks.now track c.requires.lists (omega arith) c.index-tracks-row.is in
    let few = row-few (tree_of c.args.sealed.now.units) c.args.tracks.now (c.loop-row.row - 1) track (omega arith) c.index-tracks-row.is in
    let same = ap length c.loop-row.invariant.ops in
    let room = c.loop-row.invariant.room in
    (search rules, (c.requires.graph, (c.requires.known, (subst (IsTrackBelow c.args.unit) (sym c.index-tracks-row.is) each, (list, omega (arith, few, same, room, c.requires.room))))))

pub push_tracks-returns-then-push_track : goal.push_tracks-returns-then-push_track
push_tracks-returns-then-push_track t c =
    let v = medium_of c.args.asked in
    let units = tree_of c.args.sealed.now.units in
    let tracks = c.args.tracks.now in
    let row = c.loop-row.row in
    let track = c.index-tracks-row.result in
    let next : row - 1 + 1 ≡ row = omega arith in
    let above = subst (λ n. shown_code v units c.args.at (drop n tracks) ≡ None) (sym next) c.loop-row.invariant.nothing in
    let pushed = pushed-on (row_code v units c.args.at track) c.loop-row.stack c.args.stack.now c.push_track.new.stack c.push_track.result c.loop-row.invariant.ops c.loop-row.invariant.room c.push_track.ensures in
    pushed-row v units c.args.at tracks (row - 1) track c.args.stack.now c.push_track.new.stack c.push_track.result (omega arith) c.index-tracks-row.is above c.if-push_track.true pushed

pub push_unit-push_body-requires : goal.push_unit-push_body-requires
push_unit-push_body-requires t c =
    let units = c.args.sealed.now.units in
    let node = c.index-units-unit.result in
    let at = subst (λ us. node ≡ get_or us c.args.unit node) c.units.ensures.units c.index-units-unit.is in
    let graph = c.units.ensures.sealed.graph in
    let whole : ops_of (tree_of units c.args.unit) ≡ ops_of (body_tree (tree_of units) node.body) + length node.filters = ap ops_of (tree_of-step units c.args.unit node graph c.requires.known at) in
    let tracks = subst (λ n. HasFewTracks n.body) (sym at) (c.units.ensures.sealed.tracks c.args.unit node c.requires.known) in
    (search rules, (graph, (c.requires.known, (graph.bodies c.args.unit node c.requires.known at, (tracks, (unit-lists units c.args.unit node c.requires.known at, omega (arith, whole, c.requires.room)))))))

pub push_unit-returns-then-not-push_body : goal.push_unit-returns-then-not-push_body
push_unit-returns-then-not-push_body t c =
    let v = medium_of c.args.asked in
    let units = c.args.sealed.now.units in
    let node = c.index-units-unit.result in
    let at = subst (λ us. node ≡ get_or us c.args.unit node) c.units.ensures.units c.index-units-unit.is in
    let step = tree_of-step units c.args.unit node c.units.ensures.sealed.graph c.requires.known at in
    let pushed = pushed-none c.args.at node.filters (code v (body_tree (tree_of units) node.body) c.args.at) c.args.stack.now c.push_body.new.stack c.push_body.result c.push_body.ensures c.if-not-push_body.true in
    subst (λ tree. IsPushed (code v tree c.args.at) c.args.stack.now c.push_body.new.stack false) (sym step) pushed

pub push_unit-put_filters-requires : goal.push_unit-put_filters-requires
push_unit-put_filters-requires t c =
    let v = medium_of c.args.asked in
    let units = c.args.sealed.now.units in
    let node = c.index-units-unit.result in
    let at = subst (λ us. node ≡ get_or us c.args.unit node) c.units.ensures.units c.index-units-unit.is in
    let step = tree_of-step units c.args.unit node c.units.ensures.sealed.graph c.requires.known at in
    let body = body_tree (tree_of units) node.body in
    let fits : ops_of body + length node.filters ≤ c.args.stack.now.spare = subst (λ tree. ops_of tree ≤ c.args.stack.now.spare) step c.requires.room in
    let left = spare-left (ops_of body) (length node.filters) (code v body c.args.at) c.args.stack.now c.push_body.new.stack c.push_body.result (code-few v body (subst IsPlanted step (unit-planted units c.units.ensures.sealed.graph c.args.unit)) c.args.at) fits c.push_body.ensures in
    subst (λ fs. length fs ≤ c.push_body.new.stack.spare) (sym c.as_slice.ensures) left

pub push_unit-returns : goal.push_unit-returns
push_unit-returns t c =
    let v = medium_of c.args.asked in
    let units = c.args.sealed.now.units in
    let node = c.index-units-unit.result in
    let at = subst (λ us. node ≡ get_or us c.args.unit node) c.units.ensures.units c.index-units-unit.is in
    let step = tree_of-step units c.args.unit node c.units.ensures.sealed.graph c.requires.known at in
    let above = subst (λ fs. IsAbove (flat_map (filter_ops c.args.at) fs) c.push_body.new.stack c.put_filters.new.ops) c.as_slice.ensures c.put_filters.ensures in
    let pushed = pushed-filters c.args.at node.filters (code v (body_tree (tree_of units) node.body) c.args.at) c.args.stack.now c.push_body.new.stack c.put_filters.new.ops c.push_body.result c.push_body.ensures c.if-not-push_body.false above in
    subst (λ tree. IsPushed (code v tree c.args.at) c.args.stack.now c.put_filters.new.ops true) (sym step) pushed

-- ---- rows with plants

pub push_rows-push_row-requires : goal.push_rows-push_row-requires
push_rows-push_row-requires t c =
    let us = c.args.sealed.now.units in
    let units = tree_of us in
    let v = medium_of c.args.asked in
    let row = c.loop-row.row in
    let track = c.index-tracks-row.result in
    let is = c.index-tracks-row.is in
    let each = c.requires.tracks_below row track (omega arith) in
    let list = row-list us c.args.unit row c.args.tracks.now track c.requires.lists (omega arith) is in
    let room = row-room v units c.args.at (λ j. nat_eq (get_or c.args.ends.now j 0) c.args.shown) c.args.tracks.now row track (omega arith) is c.loop-row.stack.spare c.loop-row.invariant.spare in
    let some = some-ops (track_tree units track) (unit-track-planted us c.requires.graph track) in
    (search rules, (c.requires.graph, (c.requires.known, (subst (IsTrackBelow c.args.unit) (sym is) each, (list, (omega (arith, some, room), room))))))

pub push_rows-loop-row-preserved : goal.push_rows-loop-row-preserved
push_rows-loop-row-preserved t c =
    let us = c.args.sealed.now.units in
    let units = tree_of us in
    let v = medium_of c.args.asked in
    let row = c.loop-row.row in
    let track = c.index-tracks-row.result in
    let is = c.index-tracks-row.is in
    let wanted = λ (j : ℕ). nat_eq (get_or c.args.ends.now j 0) c.args.shown in
    let planted = unit-track-planted us c.requires.graph track in
    record {
      ops = row-pushed v units c.args.at wanted c.args.tracks.now row track (omega arith) is _ c.loop-row.stack c.push_row.new.stack c.loop-row.invariant.ops c.push_row.ensures;
      spare = rows-room v units c.args.at wanted c.args.tracks.now row track (omega arith) is c.loop-row.stack c.push_row.new.stack c.loop-row.invariant.spare c.push_row.ensures (row_code-few v units track planted c.args.at (wanted row));
      room = c.push_row.ensures.room ∙ c.loop-row.invariant.room;
    }

pub push_planned-put_plants-requires-clause-room : goal.push_planned-put_plants-requires-clause-room
push_planned-put_plants-requires-clause-room t c =
    let us = c.args.sealed.now.units in
    let tracks = tracks_of (tree_of us) c.args.tracks.now in
    let few = row_ops-few (medium_of c.args.asked) (λ j. nat_eq (get_or c.args.ends.now j 0) c.args.shown) 0 tracks (unit-tracks-planted us c.requires.graph c.args.tracks.now) c.args.at in
    left-above _ c.args.stack.now c.push_rows.new.stack (length c.args.plants.now) c.push_rows.ensures (omega (arith, few, c.requires.room))

pub push_planned-put_keep-requires-clause-room : goal.push_planned-put_keep-requires-clause-room
push_planned-put_keep-requires-clause-room t c =
    let us = c.args.sealed.now.units in
    let v = medium_of c.args.asked in
    let tracks = tracks_of (tree_of us) c.args.tracks.now in
    let count = length c.args.tracks.now in
    let few = row_ops-few v (λ j. nat_eq (get_or c.args.ends.now j 0) c.args.shown) 0 tracks (unit-tracks-planted us c.requires.graph c.args.tracks.now) c.args.at in
    let keep = subst (λ n. length (keep_ops count c.args.shown) ≤ cond (nat_lt 1 n) 1 0) (sym (length-tracks (tree_of us) c.args.tracks.now)) (few-keep count c.args.shown) in
    let rest = left-above _ c.args.stack.now c.push_rows.new.stack (length c.args.plants.now + length (keep_ops count c.args.shown)) c.push_rows.ensures (omega (arith, few, keep, c.requires.room)) in
    left-above _ c.push_rows.new.stack c.put_plants.new.ops (length (keep_ops count c.args.shown)) c.put_plants.ensures (omega (arith, rest, few-plants v c.args.at count c.args.plants.now))

pub push_planted-push_planned-requires : goal.push_planted-push_planned-requires
push_planted-push_planned-requires t c =
    let units = tree_of c.args.sealed.now.units in
    let inside = planned-inside (medium_of c.args.asked) units c.args.tracks.now c.args.at c.args.plants.now c.in-Some.shown c.in-Some.ensures.shown in
    (search rules, (c.requires.graph, (c.requires.known, (c.requires.below, (c.requires.lists, (c.requires.few, (c.in-Some.ensures.long, (inside, c.requires.room))))))))

pub push_planted-returns-in-Some : goal.push_planted-returns-in-Some
push_planted-returns-in-Some t c =
    let v = medium_of c.args.asked in
    let units = tree_of c.args.sealed.now.units in
    let tracks = c.args.tracks.now in
    let n = c.args.at in
    pushed-planned v n c.args.plants.now (rows_code v (tracks_of units tracks) n) c.args.stack.now c.push_planned.new.stack (length tracks) c.in-Some.shown c.plan_rows.new.ends
    (sym (length-track_rows v units tracks n)) c.in-Some.ensures.shown c.in-Some.ensures.ends c.push_planned.ensures
