-- The numbers of operations, in their ranges. An enum can't keep a range by itself, so what evaluates operations asks
-- for it.
use Rattle.mlt_frame.specs.declared.op.Op.{Op}
use Rattle.mlt_frame.specs.declared.op.Op.TheVariants.{Load, Absent, Filter, Merge, Keep}
use Rattle.mlt_tree.specs.Ranges.{IsFilterStep, IsMergeStep}

-- the numbers of a filter and of a merge are those of its step
abbrev pub IsInRange : Op → Type 0
IsInRange (Load source at) = Unit {0}
IsInRange Absent = Unit {0}
IsInRange (Filter depth step) = IsFilterStep step
IsInRange (Merge a b step) = IsMergeStep step
IsInRange (Keep row count) = Unit {0}
