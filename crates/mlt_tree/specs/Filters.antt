-- What each filter makes of a picture, byte by byte. Byte k is of pixel k / 4 and channel k % 4, which are red,
-- green, blue and alpha; an alpha stays where nothing else is said.
use Rattle.std.specs.Prelude.{ℕ, ◌+◌, ◌-◌, ◌*◌, ◌/◌, ◌%◌, ◌==◌, ◌||◌, min, nat_le, nat_lt, Bool, true, false, if◌then◌else◌, List, length, slice_index}
use Rattle.mlt_base.specs.Fitting.{channel_at}
use Rattle.mlt_base.specs.Mixing.{table, lit, lightness, scaled}
use Rattle.mlt_tree.specs.declared.filter.FilterStep.{FilterStep}
use Rattle.mlt_tree.specs.declared.filter.FilterStep.TheVariants.{Brightness, Greyscale, Invert, Mirror, Crop, Threshold, Sepia, Obscure, Opacity, SwapChannels, Volume, Mono, ChannelCopy, ChannelSwap, Silence}

-- ---- filters of one pixel

-- the lightness of byte k's pixel
abbrev pub lightness_at : List ℕ → ℕ → ℕ
lightness_at xs k = lightness (slice_index xs (k / 4 * 4)) (slice_index xs (k / 4 * 4 + 1)) (slice_index xs (k / 4 * 4 + 2))

-- a new colour, where byte k is one; an alpha stays
abbrev pub coloured : List ℕ → ℕ → (colour : ℕ) → ℕ
coloured xs k colour = if k % 4 == 3 then slice_index xs k else colour

abbrev pub greyscale : List ℕ → ℕ → ℕ
greyscale xs k = coloured xs k (lightness_at xs k)

abbrev pub invert : List ℕ → ℕ → ℕ
invert xs k = coloured xs k (255 - slice_index xs k)

-- white from a brightness on, else black
abbrev pub threshold : (midpoint : ℕ) → List ℕ → ℕ → ℕ
threshold midpoint xs k = coloured xs k (if nat_le midpoint (lightness_at xs k) then 255 else 0)

-- how much red and green are raised over the brightness
abbrev pub tint : (channel : ℕ) → ℕ
tint channel = 40 - 20 * channel

abbrev pub sepia : List ℕ → ℕ → ℕ
sepia xs k = coloured xs k (min 255 (lightness_at xs k + tint (k % 4)))

-- an alpha at a level; colours stay
abbrev pub opacity : (level : ℕ) → List ℕ → ℕ → ℕ
opacity level xs k = if k % 4 == 3 then lit level (slice_index xs k) else slice_index xs k

-- each channel is the old one whose number the order has in its place
abbrev pub swapchannels : (order : List ℕ) → List ℕ → ℕ → ℕ
swapchannels order xs k = slice_index xs (k / 4 * 4 + slice_index order (k % 4))

-- ---- filters of places, in pictures of a width and a height

-- the column and the row of byte k
abbrev pub column : (width k : ℕ) → ℕ
column width k = k / 4 % width

abbrev pub row : (width k : ℕ) → ℕ
row width k = k / 4 / width

abbrev pub mirror : (vertical : Bool) (width height : ℕ) → List ℕ → ℕ → ℕ
mirror true width height xs k = channel_at xs width (column width k) (height - 1 - row width k) (k % 4)
mirror false width height xs k = channel_at xs width (width - 1 - column width k) (row width k) (k % 4)

-- whether a place of a side is cut off: it is one of the first so many, or of the last so many
abbrev pub is_cut : (front back side at : ℕ) → Bool
is_cut front back side at = nat_lt at front || nat_le (side - back) at

-- transparent black at the sides
abbrev pub crop : (left right top bottom width height : ℕ) → List ℕ → ℕ → ℕ
crop left right top bottom width height xs k =
    if is_cut left right width (column width k) || is_cut top bottom height (row width k) then 0 else slice_index xs k

-- the first place of the square that a place is in
abbrev pub corner : (size at : ℕ) → ℕ
corner size at = at - at % size

-- squares, each of the colour of its first pixel
abbrev pub obscure : (size width : ℕ) → List ℕ → ℕ → ℕ
obscure size width xs k = channel_at xs width (corner size (column width k)) (corner size (row width k)) (k % 4)

-- ---- a filter at a position

-- byte k of what a filter makes of a picture; a sound filter leaves it
abbrev pub filtered : FilterStep → (width height : ℕ) → List ℕ → ℕ → ℕ
filtered (Brightness level) width height xs k = scaled level.0 xs k
filtered Greyscale width height xs k = greyscale xs k
filtered Invert width height xs k = invert xs k
filtered (Mirror vertical) width height xs k = mirror vertical width height xs k
filtered (Crop left right top bottom) width height xs k = crop left right top bottom width height xs k
filtered (Threshold midpoint) width height xs k = threshold midpoint xs k
filtered Sepia width height xs k = sepia xs k
filtered (Obscure size) width height xs k = obscure size width xs k
filtered (Opacity level) width height xs k = opacity level.0 xs k
filtered (SwapChannels order) width height xs k = swapchannels order xs k
filtered (Volume level) width height xs k = slice_index xs k
filtered Mono width height xs k = slice_index xs k
filtered (ChannelCopy from to) width height xs k = slice_index xs k
filtered ChannelSwap width height xs k = slice_index xs k
filtered Silence width height xs k = slice_index xs k

-- what a filter makes of a picture of a width
abbrev pub picture_filter : FilterStep → (width : ℕ) → List ℕ → List ℕ
picture_filter step width xs = table (length xs) (filtered step width (length xs / 4 / width) xs)
