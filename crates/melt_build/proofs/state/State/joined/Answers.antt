use Rattle.std.proofs.Common.{◌≡◌, List, Ok, sym, ◌∙◌, subst}
use Rattle.mlt_tree.specs.declared.entry.Entry.{Entry}
use Rattle.mlt_tree.specs.Edits as edit
use Rattle.melt_build.proofs.Keeps.{joined_frames}
use Rattle.melt_build.proofs.Tracks.{edited_done, joined_composed}
use Rattle.melt_build.proofs.state.State.joined.Goals as goal

pub add_list-requires-clause-some : goal.add_list-requires-clause-some
add_list-requires-clause-some c =
    let list = c.last-list.result.now in let at = c.saturating_sub-at.result in let unit = c.next_id-unit.result.0 in
    let done = edited_done c.args.group.now.place (edit.join at c.args.n unit list) list c.join.new.self c.join.result c.in_ok-entries.entries (sym c.edited.ensures ∙ c.in_ok-entries.was) c.join.ensures in
    (joined_frames at c.args.n unit list c.join.new.self c.in_ok-entries.entries c.count.ensures.list done).0

pub add_list-requires-clause-short : goal.add_list-requires-clause-short
add_list-requires-clause-short c =
    let list = c.last-list.result.now in let at = c.saturating_sub-at.result in let unit = c.next_id-unit.result.0 in
    let done = edited_done c.args.group.now.place (edit.join at c.args.n unit list) list c.join.new.self c.join.result c.in_ok-entries.entries (sym c.edited.ensures ∙ c.in_ok-entries.was) c.join.ensures in
    (joined_frames at c.args.n unit list c.join.new.self c.in_ok-entries.entries c.count.ensures.list done).1

pub returns-clause-composed : goal.returns-clause-composed
returns-clause-composed c =
    let list = c.last-list.result.now in let at = c.saturating_sub-at.result in let unit = c.next_id-unit.result.0 in
    let joined : List Entry = c.in_ok-entries.entries in
    let done = edited_done c.args.group.now.place (edit.join at c.args.n unit list) list c.join.new.self c.join.result joined (sym c.edited.ensures ∙ c.in_ok-entries.was) c.join.ensures in
    joined_composed c.args.self.now c.add_list.new.self at c.args.n unit c.join.new.self joined (joined_frames at c.args.n unit list c.join.new.self joined c.count.ensures.list done).1 c.requires.composed c.in_ok-add_list.ensures.ok c.next_id-unit.ensures (subst (λ es. edit.join at c.args.n unit es ≡ Ok (joined, c.join.new.self)) c.last-list.ensures.list done)
