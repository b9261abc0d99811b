use Rattle.std.proofs.Common.{rules, ◌≡◌, ◌-◌, List, length, All, Ok, sym, ◌∙◌, subst}
use Rattle.std.proofs.lemmas.Result.{err_from_is_err_and}
use Rattle.mlt_tree.specs.declared.entry.Entry.{Entry}
use Rattle.mlt_tree.specs.Edits as edit
use Rattle.mlt_playlist.specs.Overlaps.{answer_of}
use Rattle.mlt_playlist.specs.Parts.{mixed_view}
use Rattle.mlt_playlist.specs.Playlist.{Does, IsList}
use Rattle.melt_build.specs.State.{IsKnown, state_view}
use Rattle.melt_build.proofs.Keeps.{mixed_parts_are}
use Rattle.melt_build.proofs.Tracks.{mix_done, mix_fails, mix_gives, mixed_composed}
use Rattle.melt_build.proofs.state.State.mixed.Goals as goal

pub add_mix-requires-clause-below : goal.add_mix-requires-clause-below
add_mix-requires-clause-below c =
    let s = c.args.self.now in let n = c.args.n in let es : List Entry = s.level.current.entries in
    let list = c.last-list.result.now in let at = c.saturating_sub-at.result in let unit = c.next_id-unit.result.0 in
    let parts = c.in_ok-parts.parts in let new : List Entry = c.mix.new.self in
    let done = mix_done c.args.group.now.place (edit.mix at n unit list) list new c.mix.result parts (sym c.edited.ensures ∙ c.in_ok-parts.was) c.mix.ensures in
    let known : All (IsKnown (length s.made.graph)) list = subst (All (IsKnown (length s.made.graph))) (sym c.last-list.ensures.list) c.requires.composed.level.current in
    (mixed_parts_are (length s.made.graph) at n unit list new (mixed_view parts) c.requires.some c.count.ensures.list known done).below

pub add_mix-requires-clause-halves : goal.add_mix-requires-clause-halves
add_mix-requires-clause-halves c =
    let s = c.args.self.now in let n = c.args.n in let es : List Entry = s.level.current.entries in
    let list = c.last-list.result.now in let at = c.saturating_sub-at.result in let unit = c.next_id-unit.result.0 in
    let parts = c.in_ok-parts.parts in let new : List Entry = c.mix.new.self in
    let done = mix_done c.args.group.now.place (edit.mix at n unit list) list new c.mix.result parts (sym c.edited.ensures ∙ c.in_ok-parts.was) c.mix.ensures in
    let known : All (IsKnown (length s.made.graph)) list = subst (All (IsKnown (length s.made.graph))) (sym c.last-list.ensures.list) c.requires.composed.level.current in
    (mixed_parts_are (length s.made.graph) at n unit list new (mixed_view parts) c.requires.some c.count.ensures.list known done).halves

pub add_mix-requires-clause-some : goal.add_mix-requires-clause-some
add_mix-requires-clause-some c =
    let s = c.args.self.now in let n = c.args.n in let es : List Entry = s.level.current.entries in
    let list = c.last-list.result.now in let at = c.saturating_sub-at.result in let unit = c.next_id-unit.result.0 in
    let parts = c.in_ok-parts.parts in let new : List Entry = c.mix.new.self in
    let done = mix_done c.args.group.now.place (edit.mix at n unit list) list new c.mix.result parts (sym c.edited.ensures ∙ c.in_ok-parts.was) c.mix.ensures in
    let known : All (IsKnown (length s.made.graph)) list = subst (All (IsKnown (length s.made.graph))) (sym c.last-list.ensures.list) c.requires.composed.level.current in
    (mixed_parts_are (length s.made.graph) at n unit list new (mixed_view parts) c.requires.some c.count.ensures.list known done).some

pub add_mix-requires-clause-short : goal.add_mix-requires-clause-short
add_mix-requires-clause-short c =
    let s = c.args.self.now in let n = c.args.n in let es : List Entry = s.level.current.entries in
    let list = c.last-list.result.now in let at = c.saturating_sub-at.result in let unit = c.next_id-unit.result.0 in
    let parts = c.in_ok-parts.parts in let new : List Entry = c.mix.new.self in
    let done = mix_done c.args.group.now.place (edit.mix at n unit list) list new c.mix.result parts (sym c.edited.ensures ∙ c.in_ok-parts.was) c.mix.ensures in
    let known : All (IsKnown (length s.made.graph)) list = subst (All (IsKnown (length s.made.graph))) (sym c.last-list.ensures.list) c.requires.composed.level.current in
    (mixed_parts_are (length s.made.graph) at n unit list new (mixed_view parts) c.requires.some c.count.ensures.list known done).short

pub returns-in_err-parts-clause-value : goal.returns-in_err-parts-clause-value
returns-in_err-parts-clause-value c =
    let s = c.args.self.now in let n = c.args.n in let es : List Entry = s.level.current.entries in
    let list = c.last-list.result.now in let at = c.saturating_sub-at.result in let unit = c.next_id-unit.result.0 in
    let new : List Entry = c.mix.new.self in
    let place : at ≡ length es - 2 = search rules in
    let at_end : Does (edit.mix (length es - 2) n unit list) list new (answer_of c.mix.result) = subst (λ k. Does (edit.mix k n unit list) list new (answer_of c.mix.result)) place c.mix.ensures in
    let of_unit : Does (edit.mix (length es - 2) n (length s.made.graph) list) list new (answer_of c.mix.result) = subst (λ k. Does (edit.mix (length es - 2) n k list) list new (answer_of c.mix.result)) c.next_id-unit.ensures at_end in
    let does : Does (edit.mix (length es - 2) n (length s.made.graph) es) es new (answer_of c.mix.result) = subst (λ es'. Does (edit.mix (length es - 2) n (length s.made.graph) es') es' new (answer_of c.mix.result)) c.last-list.ensures.list of_unit in
    let p = err_from_is_err_and c.from_residual.result c.from_residual.ensures.1 in
    rw (p.1, p.2) (mix_fails (state_view s) c.args.group.now n new c.mix.result c.in_err-parts.field-0.0 (sym c.edited.ensures ∙ c.in_err-parts.was) does)

pub returns-clause-value : goal.returns-clause-value
returns-clause-value c =
    let s = c.args.self.now in let n = c.args.n in let es : List Entry = s.level.current.entries in
    let list = c.last-list.result.now in let at = c.saturating_sub-at.result in let unit = c.next_id-unit.result.0 in
    let parts = c.in_ok-parts.parts in let new : List Entry = c.mix.new.self in
    let done = mix_done c.args.group.now.place (edit.mix at n unit list) list new c.mix.result parts (sym c.edited.ensures ∙ c.in_ok-parts.was) c.mix.ensures in
    let place : at ≡ length es - 2 = search rules in
    let at_end = subst (λ k. edit.mix k n unit list ≡ Ok (mixed_view parts, new)) place done in
    let of_unit = subst (λ k. edit.mix (length es - 2) n k list ≡ Ok (mixed_view parts, new)) c.next_id-unit.ensures at_end in
    let is = subst (λ es'. edit.mix (length es - 2) n (length s.made.graph) es' ≡ Ok (mixed_view parts, new)) c.last-list.ensures.list of_unit in
    mix_gives (state_view s) c.args.group.now n new parts c.add_mix.new.self unit is c.in_ok-add_mix.ensures.ok c.next_id-unit.ensures

pub returns-clause-composed : goal.returns-clause-composed
returns-clause-composed c =
    let s = c.args.self.now in let n = c.args.n in let es : List Entry = s.level.current.entries in
    let list = c.last-list.result.now in let at = c.saturating_sub-at.result in let unit = c.next_id-unit.result.0 in
    let parts = c.in_ok-parts.parts in let new : List Entry = c.mix.new.self in
    let done = mix_done c.args.group.now.place (edit.mix at n unit list) list new c.mix.result parts (sym c.edited.ensures ∙ c.in_ok-parts.was) c.mix.ensures in
    let list_is = c.last-list.ensures.list in
    mixed_composed s c.add_mix.new.self at n c.next_id-unit.result new parts c.requires.some (subst IsList list_is c.count.ensures.list) c.requires.composed c.in_ok-add_mix.ensures.ok c.next_id-unit.ensures (subst (λ es. edit.mix at n unit es ≡ Ok (mixed_view parts, new)) list_is done)
