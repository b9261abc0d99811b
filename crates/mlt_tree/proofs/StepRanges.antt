-- A filter or a merge in its range has steps in theirs.
use Rattle.std.proofs.Common.{ℕ, ◌<◌, ◌≤◌, arith}
use Rattle.std.proofs.Math.Nat.{div-le_of_le-mul}
use Rattle.mlt_tree.specs.declared.filter.FilterSpec.{FilterSpec}
use Rattle.mlt_tree.specs.declared.filter.FilterSpec.TheVariants.{Brightness, Greyscale, Invert, Mirror, Crop, Threshold, Sepia, Obscure, Opacity, SwapChannels, Volume, Mono, ChannelCopy, ChannelSwap, Silence}
use Rattle.mlt_tree.specs.declared.merge.MergeSpec.{MergeSpec}
use Rattle.mlt_tree.specs.declared.merge.MergeSpec.TheVariants.{Luma, Composite, Matte, Mix, Sum}
use Rattle.mlt_tree.specs.Acting.{filter_step, progress, merge_step}
use Rattle.mlt_tree.specs.Ranges.{IsFilter, IsFilterStep, IsMerge, IsMergeStep}

pub filter_step-in_range : (spec : FilterSpec) (p : ℕ) → IsFilter spec → IsFilterStep (filter_step spec p)
filter_step-in_range (Brightness level) p h = tt
filter_step-in_range Greyscale p h = tt
filter_step-in_range Invert p h = tt
filter_step-in_range (Mirror vertical) p h = tt
filter_step-in_range (Crop left right top bottom) p h = h
filter_step-in_range (Threshold midpoint) p h = h
filter_step-in_range Sepia p h = tt
filter_step-in_range (Obscure size) p h = h
filter_step-in_range (Opacity level) p h = tt
filter_step-in_range (SwapChannels order) p h = h
filter_step-in_range (Volume level) p h = tt
filter_step-in_range Mono p h = tt
filter_step-in_range (ChannelCopy from to) p h = h
filter_step-in_range ChannelSwap p h = tt
filter_step-in_range Silence p h = tt

progress-most : (p frames : ℕ) → p < frames → progress p frames ≤ 65536
progress-most p frames lt = div-le_of_le-mul frames (omega (arith, lt))

pub merge_step-in_range : (spec : MergeSpec) (p frames : ℕ) → p < frames → IsMerge spec → IsMergeStep (merge_step spec p frames)
merge_step-in_range (Luma map softness) p frames lt h = (h, progress-most p frames lt)
merge_step-in_range (Composite geometry) p frames lt h = h
merge_step-in_range Matte p frames lt h = tt
merge_step-in_range Mix p frames lt h = lt
merge_step-in_range Sum p frames lt h = tt
