use Rattle.std.proofs.Common.{◌≡◌, take}
use Rattle.mlt_graph.specs.Sizes.{entries_size}
use Rattle.mlt_graph.proofs.size.Size.of_entries.Given as goal

abbrev pub invariant-loop-entry : goal.invariant-loop-entry
invariant-loop-entry l = l.size ≡ entries_size l.table (take l.entry-index l.entries)
