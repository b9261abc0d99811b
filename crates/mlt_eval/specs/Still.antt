-- Operations that write to no block.
use Rattle.std.specs.Prelude.{◌≡◌, true, List}
use Rattle.mlt_frame.specs.declared.op.Op.{Op}
use Rattle.mlt_frame.specs.declared.op.Op.TheVariants.{Load, Absent, Filter, Merge, Keep}
use Rattle.mlt_eval.specs.Fitted.{is_fitted}
use Rattle.mlt_tree.specs.Show.{Fit}
use Rattle.mlt_vfilter.specs.Neutral.{is_neutral}

-- the load of a picture that was fitted, or of nothing, and a filter that leaves pictures as they are
abbrev pub IsStill : List Fit → Op → Type 0
IsStill fits (Load source at) = is_fitted fits source.0 ≡ true
IsStill fits Absent = Unit {0}
IsStill fits (Filter depth step) = is_neutral step ≡ true
IsStill fits (Merge a b step) = ⊥
IsStill fits (Keep row count) = ⊥
