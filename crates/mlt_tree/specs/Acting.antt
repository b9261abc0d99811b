-- Where filters and merges act, and what each is there: its animations read, its progress worked out.
use Rattle.std.specs.Prelude.{ℕ, ◌+◌, ◌-◌, ◌*◌, ◌/◌, ◌&&◌, Bool, nat_le}
use Rattle.mlt_base.specs.Animation.{value_at}
use Rattle.mlt_base.specs.declared.value.Span.{Span}
use Rattle.mlt_tree.specs.declared.filter.FilterSpec.{FilterSpec}
use Rattle.mlt_tree.specs.declared.filter.FilterSpec.TheVariants.{Brightness, Greyscale, Invert, Mirror, Crop, Threshold, Sepia, Obscure, Opacity, SwapChannels, Volume, Mono, ChannelCopy, ChannelSwap, Silence}
use Rattle.mlt_tree.specs.declared.filter.FilterStep.{FilterStep}
use Rattle.mlt_tree.specs.declared.filter.FilterStep.TheVariants as step
use Rattle.mlt_tree.specs.declared.merge.MergeSpec.{MergeSpec}
use Rattle.mlt_tree.specs.declared.merge.MergeSpec.TheVariants.{Luma, Composite, Matte, Mix, Sum}
use Rattle.mlt_tree.specs.declared.merge.MergeStep.{MergeStep}
use Rattle.mlt_tree.specs.declared.merge.MergeStep.TheVariants as merge

-- whether a position lies in a span
abbrev pub holds : Span → ℕ → Bool
holds span n = nat_le span.first.0 n && nat_le n span.last.0

-- how many frames of a span lie before a position
abbrev pub passed : Span → ℕ → ℕ
passed span n = n - span.first.0

-- how many frames a span has
abbrev pub span_frames : Span → ℕ
span_frames span = span.last.0 + 1 - span.first.0

-- a filter where p frames of its span have passed
abbrev pub filter_step : FilterSpec → ℕ → FilterStep
filter_step (Brightness level) p = step.Brightness (record { 0 = value_at level p })
filter_step Greyscale p = step.Greyscale
filter_step Invert p = step.Invert
filter_step (Mirror vertical) p = step.Mirror vertical
filter_step (Crop left right top bottom) p = step.Crop left right top bottom
filter_step (Threshold midpoint) p = step.Threshold midpoint
filter_step Sepia p = step.Sepia
filter_step (Obscure size) p = step.Obscure size
filter_step (Opacity level) p = step.Opacity (record { 0 = value_at level p })
filter_step (SwapChannels order) p = step.SwapChannels order
filter_step (Volume level) p = step.Volume (record { 0 = value_at level p })
filter_step Mono p = step.Mono
filter_step (ChannelCopy from to) p = step.ChannelCopy from to
filter_step ChannelSwap p = step.ChannelSwap
filter_step Silence p = step.Silence

-- how far p of so many frames are, in 65536ths
abbrev pub progress : (p frames : ℕ) → ℕ
progress p frames = p * 65536 / frames

-- a merge where p of its frames have passed
abbrev pub merge_step : MergeSpec → (p frames : ℕ) → MergeStep
merge_step (Luma map softness) p frames = merge.Luma map softness (record { 0 = progress p frames })
merge_step (Composite geometry) p frames = merge.Composite geometry
merge_step Matte p frames = merge.Matte
merge_step Mix p frames = merge.Mix p frames
merge_step Sum p frames = merge.Sum
