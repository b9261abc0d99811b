-- A matter that writes down how it was made, for the worked rows.
use Rattle.std.specs.Prelude.{ℕ, Option, None, Some}
use Rattle.mlt_tree.specs.declared.filter.FilterStep.{FilterStep}
use Rattle.mlt_tree.specs.declared.merge.MergeStep.{MergeStep}
use Rattle.mlt_tree.specs.Meaning.{Matter, mean}
use Rattle.mlt_tree.specs.Medium.{Pictures}
use Rattle.mlt_tree.specs.Tree.{Tree}

pub data Trace : Type 0 where
  Of : (source : ℕ) → Trace
  Filtered : FilterStep → Trace → Trace
  Merged : MergeStep → Trace → Trace → Trace
  -- into a row that has nothing
  MergedAlone : MergeStep → Trace → Trace

abbrev merged : MergeStep → Option Trace → Trace → Trace
merged step None above = MergedAlone step above
merged step (Some under) above = Merged step under above

abbrev pub traces : Matter Trace
traces = record { source = λ source n. Of source; filter = Filtered; merge = merged }

-- how the picture of a position is made
abbrev pub seen : Tree → ℕ → Option Trace
seen t n = mean Pictures traces t n
