-- Formulas of bytes: how the bytes of pictures are mixed, lit and laid over one another.
-- A picture has four bytes a pixel, red, green, blue and alpha, so byte k is of pixel k / 4 and channel k % 4.
use Rattle.std.specs.Prelude.{ℕ, ◌+◌, ◌-◌, ◌*◌, ◌/◌, ◌%◌, ◌==◌, min, if◌then◌else◌, List, map, slice_index}
use Rattle.std.specs.List.{range_with_len}

-- the list of f 0 to f (n - 1)
abbrev pub table : ℕ → (ℕ → ℕ) → List ℕ
table n f = map f (range_with_len 0 n)

-- ---- dissolving

-- q parts in 65536 of z and the rest of x, to the nearest whole number
abbrev pub blended : ℕ → ℕ → ℕ → ℕ
blended q x z = (x * (65536 - q) + z * q + 32768) / 65536

-- byte k of a picture dissolved into another by q
abbrev pub dissolved : ℕ → List ℕ → List ℕ → ℕ → ℕ
dissolved q xs zs k = blended q (slice_index xs k) (slice_index zs k)

-- ---- levels and lightness

-- a colour at a level, of which 65536 leaves it as it is; 255 is the most
abbrev pub lit : ℕ → ℕ → ℕ
lit level c = min 255 ((c * level + 32768) / 65536)

-- byte k of a picture at a level: alpha, which is channel 3, stays
abbrev pub scaled : ℕ → List ℕ → ℕ → ℕ
scaled level xs k = if k % 4 == 3 then slice_index xs k else lit level (slice_index xs k)

-- the lightness of a colour, 0 to 255
abbrev pub lightness : ℕ → ℕ → ℕ → ℕ
lightness r g b = (77 * r + 150 * g + 29 * b) / 256

-- ---- laying over

-- the alpha of byte k's pixel
abbrev pub alpha_at : List ℕ → ℕ → ℕ
alpha_at xs k = slice_index xs (k / 4 * 4 + 3)

-- an alpha at an opacity in hundredths, to the nearest whole number
abbrev pub strength : ℕ → ℕ → ℕ
strength alpha opacity = (alpha * opacity + 50) / 100

-- how much of alpha a below and alpha b above can be seen, in 65025 parts
abbrev pub weight : ℕ → ℕ → ℕ
weight a b = 255 * b + a * (255 - b)

-- a colour z of alpha b over a colour x of alpha a, whose weight is t
abbrev pub laid : ℕ → ℕ → ℕ → ℕ → ℕ → ℕ
laid t a b x z = (z * b * 255 + x * a * (255 - b) + t / 2) / t

-- a channel where alpha a lies below and alpha b above: nothing where the weight is 0, else alpha or a colour
abbrev pub laid_channel : ℕ → ℕ → ℕ → ℕ → ℕ → ℕ
laid_channel channel a b x z =
    if weight a b == 0 then 0 else (if channel == 3 then (weight a b + 127) / 255 else laid (weight a b) a b x z)

-- byte k of a picture xs with zs laid over it at an opacity
abbrev pub laid_over : ℕ → List ℕ → List ℕ → ℕ → ℕ
laid_over opacity xs zs k =
    laid_channel (k % 4) (alpha_at xs k) (strength (alpha_at zs k) opacity) (slice_index xs k) (slice_index zs k)
