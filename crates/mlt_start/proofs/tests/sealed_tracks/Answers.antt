use Rattle.std.proofs.Common.{◌<◌, [], length, All, rules, sym, subst}
use Rattle.std.proofs.lemmas.List.Elements.{All-nil, All-cons}
use Rattle.mlt_tree.specs.declared.draft.Draft.{Draft}
use Rattle.mlt_tree.specs.Units.{Level, drafts_of, IsEntryBelow}
use Rattle.mlt_start.proofs.tests.sealed_tracks.Goals as goal

pub add_tractor-requires : goal.add_tractor-requires
add_tractor-requires c =
    let count = length c.add_source-2.new.self in
    let low : c.in_ok-low.low.0 < count = search rules in
    let high : c.in_ok-high.high.0 < count = search rules in
    let none : All (λ (draft : Draft). All (IsEntryBelow count) draft.entries) (drafts_of c.in_ok-level.level) =
    subst (λ (level : Level). All (λ (draft : Draft). All (IsEntryBelow count) draft.entries) (drafts_of level)) (sym c.in_ok-level.ensures) (All-cons (λ (draft : Draft). All (IsEntryBelow count) draft.entries) _ [] (All-nil (IsEntryBelow count)) (All-nil (λ (draft : Draft). All (IsEntryBelow count) draft.entries))) in
    let both = c.in_ok-add_track-2.ensures count high (c.in_ok-add_track.ensures count low none) in
    subst (λ (level : Level). All (λ (draft : Draft). All (IsEntryBelow count) draft.entries) (drafts_of level)) (sym c.in_ok-plant_merge.ensures.ok) both
