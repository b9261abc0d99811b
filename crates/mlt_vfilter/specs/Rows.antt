-- Filters that make each row of a picture of the row that was there, and what they make of it.
use Rattle.std.specs.Prelude.{◌≡◌, ℕ, ◌*◌, ◌<◌, Bool, true, false, List, length, slice_index}
use Rattle.mlt_base.specs.Mixing.{scaled}
use Rattle.mlt_slice.specs.Rows.{IsWorked, by_bytes}
use Rattle.mlt_tree.specs.Filters.{greyscale, invert, threshold, sepia, opacity, swapchannels, picture_filter}
use Rattle.mlt_tree.specs.Ranges.{IsFilterStep}
use Rattle.mlt_tree.specs.declared.filter.FilterStep.{FilterStep}
use Rattle.mlt_tree.specs.declared.filter.FilterStep.TheVariants.{Brightness, Greyscale, Invert, Mirror, Crop, Threshold, Sepia, Obscure, Opacity, SwapChannels, Volume, Mono, ChannelCopy, ChannelSwap, Silence}
use Rattle.mlt_vfilter.specs.Places.{turned_row, cut_row}

-- all do but a vertical mirror, which looks at another row, and obscure, which looks at the first row of a square
abbrev pub goes_by_rows : FilterStep → Bool
goes_by_rows (Brightness level) = true
goes_by_rows Greyscale = true
goes_by_rows Invert = true
goes_by_rows (Mirror true) = false
goes_by_rows (Mirror false) = true
goes_by_rows (Crop left right top bottom) = true
goes_by_rows (Threshold midpoint) = true
goes_by_rows Sepia = true
goes_by_rows (Obscure size) = false
goes_by_rows (Opacity level) = true
goes_by_rows (SwapChannels order) = true
goes_by_rows (Volume level) = true
goes_by_rows Mono = true
goes_by_rows (ChannelCopy from to) = true
goes_by_rows ChannelSwap = true
goes_by_rows Silence = true

-- byte i of what a filter that goes by rows makes of row n of so many
abbrev pub filtered_row : FilterStep → (rows n : ℕ) → List ℕ → ℕ → ℕ
filtered_row (Brightness level) rows n row i = scaled level.0 row i
filtered_row Greyscale rows n row i = greyscale row i
filtered_row Invert rows n row i = invert row i
filtered_row (Mirror vertical) rows n row i = turned_row row i
filtered_row (Crop left right top bottom) rows n row i = cut_row left right top bottom rows n row i
filtered_row (Threshold midpoint) rows n row i = threshold midpoint row i
filtered_row Sepia rows n row i = sepia row i
filtered_row (Obscure size) rows n row i = slice_index row i
filtered_row (Opacity level) rows n row i = opacity level.0 row i
filtered_row (SwapChannels order) rows n row i = swapchannels order row i
filtered_row (Volume level) rows n row i = slice_index row i
filtered_row Mono rows n row i = slice_index row i
filtered_row (ChannelCopy from to) rows n row i = slice_index row i
filtered_row ChannelSwap rows n row i = slice_index row i
filtered_row Silence rows n row i = slice_index row i

-- the rows that such a filter makes are those of the picture that it makes
abbrev pub FiltersGoByRows : Type 0
FiltersGoByRows =
    (step : FilterStep) (width rows : ℕ) (xs : List ℕ) → IsFilterStep step → goes_by_rows step ≡ true → 0 < width → length xs ≡ rows * (width * 4) → IsWorked (by_bytes (filtered_row step rows)) (width * 4) 0 xs (picture_filter step width xs)
