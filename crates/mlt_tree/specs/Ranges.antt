-- The ranges of filters, merges, plants and entries. An enum can't keep a range by itself, so each call
-- that is handed one of these asks for it.
use Rattle.std.specs.Prelude.{ℕ, ◌+◌, ◌-◌, ◌≤◌, ◌<◌, ◌^◌, All}
use Rattle.mlt_base.specs.GeometryView.{IsPlacement}
use Rattle.mlt_base.specs.Span.{IsSpan}
use Rattle.mlt_tree.specs.Acting.{span_frames}
use Rattle.mlt_tree.specs.declared.entry.Entry.{Entry}
use Rattle.mlt_tree.specs.declared.entry.Entry.TheVariants.{Clip, Gap}
use Rattle.mlt_tree.specs.declared.filter.FilterSpec.{FilterSpec}
use Rattle.mlt_tree.specs.declared.filter.FilterSpec.TheVariants.{Brightness, Greyscale, Invert, Mirror, Crop, Threshold, Sepia, Obscure, Opacity, SwapChannels, Volume, Mono, ChannelCopy, ChannelSwap, Silence}
use Rattle.mlt_tree.specs.declared.filter.FilterStep.{FilterStep}
use Rattle.mlt_tree.specs.declared.filter.FilterStep.TheVariants as step
use Rattle.mlt_tree.specs.declared.merge.MergeSpec.{MergeSpec}
use Rattle.mlt_tree.specs.declared.merge.MergeSpec.TheVariants.{Luma, Composite, Matte, Mix, Sum}
use Rattle.mlt_tree.specs.declared.merge.MergeStep.{MergeStep}
use Rattle.mlt_tree.specs.declared.merge.MergeStep.TheVariants as merge_step
use Rattle.mlt_tree.specs.declared.tree.Attached.{Attached}
use Rattle.mlt_tree.specs.declared.tree.Plant.{Plant}
use Rattle.mlt_tree.specs.declared.tree.Plant.TheVariants.{OnTrack, Between}

abbrev pub IsFilter : FilterSpec → Type 0
IsFilter (Brightness level) = Unit {0}
IsFilter Greyscale = Unit {0}
IsFilter Invert = Unit {0}
IsFilter (Mirror vertical) = Unit {0}
IsFilter (Crop left right top bottom) = (left ≤ 4096) × (right ≤ 4096) × (top ≤ 4096) × (bottom ≤ 4096)
IsFilter (Threshold midpoint) = midpoint ≤ 255
IsFilter Sepia = Unit {0}
IsFilter (Obscure size) = (1 ≤ size) × (size ≤ 4096)
IsFilter (Opacity level) = Unit {0}
IsFilter (SwapChannels order) = All (λ channel. channel < 4) order
IsFilter (Volume level) = Unit {0}
IsFilter Mono = Unit {0}
IsFilter (ChannelCopy from to) = (from ≤ 1) × (to ≤ 1)
IsFilter ChannelSwap = Unit {0}
IsFilter Silence = Unit {0}

abbrev pub IsMerge : MergeSpec → Type 0
IsMerge (Luma map softness) = softness.0 ≤ 65536
IsMerge (Composite geometry) = IsPlacement geometry
IsMerge Matte = Unit {0}
IsMerge Mix = Unit {0}
IsMerge Sum = Unit {0}

-- a filter where so many frames of its span have passed
abbrev pub IsFilterStep : FilterStep → Type 0
IsFilterStep (step.Brightness level) = Unit {0}
IsFilterStep step.Greyscale = Unit {0}
IsFilterStep step.Invert = Unit {0}
IsFilterStep (step.Mirror vertical) = Unit {0}
IsFilterStep (step.Crop left right top bottom) = (left ≤ 4096) × (right ≤ 4096) × (top ≤ 4096) × (bottom ≤ 4096)
IsFilterStep (step.Threshold midpoint) = midpoint ≤ 255
IsFilterStep step.Sepia = Unit {0}
IsFilterStep (step.Obscure size) = (1 ≤ size) × (size ≤ 4096)
IsFilterStep (step.Opacity level) = Unit {0}
IsFilterStep (step.SwapChannels order) = All (λ channel. channel < 4) order
IsFilterStep (step.Volume level) = Unit {0}
IsFilterStep step.Mono = Unit {0}
IsFilterStep (step.ChannelCopy from to) = (from ≤ 1) × (to ≤ 1)
IsFilterStep step.ChannelSwap = Unit {0}
IsFilterStep step.Silence = Unit {0}

-- a merge where p of its frames have passed: it has more, and is at most whole
abbrev pub IsMergeStep : MergeStep → Type 0
IsMergeStep (merge_step.Luma map softness q) = (softness.0 ≤ 65536) × (q.0 ≤ 65536)
IsMergeStep (merge_step.Composite geometry) = IsPlacement geometry
IsMergeStep merge_step.Matte = Unit {0}
IsMergeStep (merge_step.Mix p frames) = p < frames
IsMergeStep merge_step.Sum = Unit {0}

abbrev pub IsAttached : Attached → Type 0
IsAttached filter = IsFilter filter.spec × IsSpan filter.span

-- the frames of a merge are counted in 32 bits
abbrev pub IsPlant : Plant → Type 0
IsPlant (OnTrack track spec span) = IsFilter spec × IsSpan span
IsPlant (Between a b spec span) = IsMerge spec × IsSpan span × (span_frames span < 2 ^ 32)

-- an entry has at least one frame, and filters in their ranges
abbrev pub IsEntry : Entry → Type 0
IsEntry (Clip unit span filters) = IsSpan span × All IsAttached filters
IsEntry (Gap frames) = 1 ≤ frames

-- how many frames an entry has
abbrev pub frames : Entry → ℕ
frames (Clip unit span filters) = span.last.0 + 1 - span.first.0
frames (Gap count) = count
