use Rattle.std.proofs.Common.{length, sym, subst, arith}
use Rattle.mlt_tree.specs.Units.{AreEntriesBelow}
use Rattle.mlt_graph.proofs.size.Size.of_drafts.Goals as goal

pub of_entries-requires : goal.of_entries-requires
of_entries-requires c =
    let draft = c.draft-item.result in
    subst (AreEntriesBelow (length c.args.table.now)) (sym c.entries.ensures)
    (subst (λ d. AreEntriesBelow (length c.args.table.now) d.entries) (sym c.draft-item.is) (c.requires c.loop-draft.draft-index draft (omega arith)))
