use Rattle.std.proofs.Common.{◌≡◌, take}
use Rattle.mlt_graph.specs.Weights.{entries_weight}
use Rattle.mlt_graph.proofs.weight.Weight.of_entries.Given as goal

abbrev pub invariant-loop-entry : goal.invariant-loop-entry
invariant-loop-entry l = l.weight ≡ entries_weight l.table (take l.entry-index l.entries)
