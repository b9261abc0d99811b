use Rattle.std.proofs.Common.{length, sym, ap, ◌∙◌, subst}
use Rattle.std.specs.List.{All}
use Rattle.mlt_tree.specs.declared.draft.Draft.{Draft}
use Rattle.mlt_tree.specs.Units.{Level, AreEntriesBelow}
use Rattle.mlt_graph.specs.Sizes.{over_size, drafts_size, entries_size}
use Rattle.mlt_graph.proofs.Tractors.{all-closed, all-last, drafts_size-last}
use Rattle.mlt_graph.proofs.level.Level.size.Goals as goal

pub of_drafts-closed-requires : goal.of_drafts-closed-requires
of_drafts-closed-requires c =
    let count = length c.args.table.now in
    subst (All (λ (draft : Draft). AreEntriesBelow count draft.entries)) (ap (λ (level : Level). level.closed) (sym c.self.view_is) ∙ sym c.as_slice.ensures.value)
    (all-closed (λ draft. AreEntriesBelow count draft.entries) c.args.self.now c.requires)

pub of_entries-requires : goal.of_entries-requires
of_entries-requires c =
    subst (AreEntriesBelow (length c.args.table.now)) (ap (λ (level : Level). level.current.entries) (sym c.self.view_is) ∙ sym c.as_slice-2.ensures)
    (all-last (λ draft. AreEntriesBelow (length c.args.table.now) draft.entries) c.args.self.now c.requires)

pub returns : goal.returns
returns c =
    let table = c.args.table.now in
    c.under.ensures
    ∙ ap (λ a. over_size a c.of_entries.result) (c.of_drafts-closed.ensures ∙ ap (drafts_size table) (c.as_slice.ensures.value ∙ ap (λ (level : Level). level.closed) c.self.view_is))
    ∙ ap (over_size (drafts_size table c.args.self.now.closed)) (c.of_entries.ensures ∙ ap (entries_size table) (c.as_slice-2.ensures ∙ ap (λ (level : Level). level.current.entries) c.self.view_is))
    ∙ drafts_size-last table c.args.self.now
