-- Pictures brought to another size: stretched to it, or fitted into a frame with their shape kept.
-- A place between the pixels of a row is counted in 65536ths of a pixel; between the rows it is the same.
use Rattle.std.specs.Prelude.{ℕ, ◌+◌, ◌-◌, ◌*◌, ◌/◌, ◌%◌, ◌&&◌, min, max, nat_le, nat_lt, Bool, if◌then◌else◌, List, slice_index}
use Rattle.mlt_base.specs.Still.{Picture}

-- ---- where a source stands in a frame; columns and rows alike

-- how much of a frame's side a source's own side takes: all of it, or as much as its other side leaves to its shape
abbrev pub inner : ℕ → ℕ → ℕ → ℕ → ℕ
inner own other side across = if nat_le (other * side) (own * across) then side else max 1 (own * across / other)

-- how much of the side stays free before it
abbrev pub inset : ℕ → ℕ → ℕ
inset side taken = (side - taken) / 2

-- whether a pixel of the side is one of those that are taken
abbrev pub is_taken : ℕ → ℕ → ℕ → Bool
is_taken side taken at = nat_le (inset side taken) at && nat_lt at (inset side taken + taken)

-- where the middle of pixel `at` of so many lies along so many pixels of a source
abbrev pub along : ℕ → ℕ → ℕ → ℕ
along pixels taken at = min ((2 * at + 1) * pixels * 65536 / (2 * taken) - 32768) ((pixels - 1) * 65536)

-- ---- the value at a place

-- the pixel that follows a place, of so many pixels; the last one has no other behind it
abbrev pub next : ℕ → ℕ → ℕ
next pixels place = min (place / 65536 + 1) (pixels - 1)

-- a share of z in 65536 parts and the rest of x, in those parts
abbrev pub weighed : ℕ → ℕ → ℕ → ℕ
weighed share x z = x * (65536 - share) + z * share

-- a channel of the pixel at column x of row y, in rows of a width
abbrev pub channel_at : List ℕ → ℕ → ℕ → ℕ → ℕ → ℕ
channel_at pixels width x y channel = slice_index pixels ((y * width + x) * 4 + channel)

-- a channel at a place of row y, between two pixels
abbrev pub across : List ℕ → ℕ → ℕ → ℕ → ℕ → ℕ
across pixels width place y channel =
    weighed (place % 65536) (channel_at pixels width (place / 65536) y channel) (channel_at pixels width (next width place) y channel)

-- a byte between two such values of two rows, to the nearest whole number
abbrev pub down : ℕ → ℕ → ℕ → ℕ
down share top bottom = (weighed share top bottom + 2147483648) / 4294967296

-- a channel at column x and row y, which are places, between four pixels
unfoldable pub spot_at : Picture → ℕ → ℕ → ℕ → ℕ
spot_at source x y channel =
    down (y % 65536) (across source.pixels source.width x (y / 65536) channel) (across source.pixels source.width x (next source.height y) channel)

-- ---- pictures; byte k is of pixel k / 4 and channel k % 4

-- a channel of the pixel at column u of row v of a source stretched to a width and a height
abbrev pub stretched_at : Picture → ℕ → ℕ → ℕ → ℕ → ℕ → ℕ
stretched_at source width height u v channel =
    spot_at source (along source.width width u) (along source.height height v) channel

-- byte k of a source stretched to a width and a height
abbrev pub stretched : Picture → ℕ → ℕ → ℕ → ℕ
stretched source width height k = stretched_at source width height (k / 4 % width) (k / 4 / width) (k % 4)

-- byte k of a frame whose inner picture is a source stretched to so wide and so high; outside it is transparent black
unfoldable pub framed : Picture → ℕ → ℕ → ℕ → ℕ → ℕ → ℕ
framed source width height wide high k =
    if is_taken width wide (k / 4 % width) && is_taken height high (k / 4 / width) then stretched_at source wide high (k / 4 % width - inset width wide) (k / 4 / width - inset height high) (k % 4) else 0

-- byte k of a source fitted into a frame
abbrev pub fitted : Picture → ℕ → ℕ → ℕ → ℕ
fitted source width height k =
    framed source width height (inner source.width source.height width height) (inner source.height source.width height width) k
