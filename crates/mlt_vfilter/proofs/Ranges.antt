-- The range of a filter is one fact: it has at most one proof.
use Rattle.std.proofs.Props.{props}
use Rattle.mlt_tree.specs.Ranges.{IsFilterStep}
use Rattle.mlt_tree.specs.declared.filter.FilterStep.{FilterStep}
use Rattle.mlt_tree.specs.declared.filter.FilterStep.TheVariants.{Brightness, Greyscale, Invert, Mirror, Crop, Threshold, Sepia, Obscure, Opacity, SwapChannels, Volume, Mono, ChannelCopy, ChannelSwap, Silence}

pub one_range : (step : FilterStep) → IsProp (IsFilterStep step)
one_range (Brightness level) = hlevel props
one_range Greyscale = hlevel props
one_range Invert = hlevel props
one_range (Mirror vertical) = hlevel props
one_range (Crop left right top bottom) = hlevel props
one_range (Threshold midpoint) = hlevel props
one_range Sepia = hlevel props
one_range (Obscure size) = hlevel props
one_range (Opacity level) = hlevel props
one_range (SwapChannels order) = hlevel props
one_range (Volume level) = hlevel props
one_range Mono = hlevel props
one_range (ChannelCopy from to) = hlevel props
one_range ChannelSwap = hlevel props
one_range Silence = hlevel props
