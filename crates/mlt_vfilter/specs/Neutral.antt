-- Filters that leave each picture as it is.
use Rattle.std.specs.Prelude.{◌==◌, Bool, true, false}
use Rattle.mlt_tree.specs.declared.filter.FilterStep.{FilterStep}
use Rattle.mlt_tree.specs.declared.filter.FilterStep.TheVariants.{Brightness, Greyscale, Invert, Mirror, Crop, Threshold, Sepia, Obscure, Opacity, SwapChannels, Volume, Mono, ChannelCopy, ChannelSwap, Silence}

-- brightness and opacity at level 1, which is 65536, and each filter of sound
abbrev pub is_neutral : FilterStep → Bool
is_neutral (Brightness level) = level.0 == 65536
is_neutral Greyscale = false
is_neutral Invert = false
is_neutral (Mirror vertical) = false
is_neutral (Crop left right top bottom) = false
is_neutral (Threshold midpoint) = false
is_neutral Sepia = false
is_neutral (Obscure size) = false
is_neutral (Opacity level) = level.0 == 65536
is_neutral (SwapChannels order) = false
is_neutral (Volume level) = true
is_neutral Mono = true
is_neutral (ChannelCopy from to) = true
is_neutral ChannelSwap = true
is_neutral Silence = true
