use Rattle.std.proofs.Common.{◌≡◌, take}
use Rattle.mlt_graph.specs.Sizes.{drafts_size}
use Rattle.mlt_graph.proofs.size.Size.of_drafts.Given as goal

abbrev pub invariant-loop-draft : goal.invariant-loop-draft
invariant-loop-draft l = l.size ≡ drafts_size l.table (take l.draft-index l.drafts)
