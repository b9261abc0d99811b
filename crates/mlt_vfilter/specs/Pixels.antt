-- Filters of one pixel: what each makes of a channel, by the channel's number and value and the old pixel.
use Rattle.std.specs.Prelude.{◌≡◌, ℕ, ◌+◌, ◌-◌, ◌*◌, ◌/◌, ◌%◌, ◌==◌, min, nat_le, if◌then◌else◌, List, slice_index}
use Rattle.mlt_base.specs.Mixing.{lit, lightness}
use Rattle.mlt_kernel.specs.declared.pixel.Pixel.{Pixel}
use Rattle.mlt_tree.specs.Filters.{tint}

-- a pixel whose channels f has made
abbrev pub IsMade : (ℕ → ℕ → Pixel → ℕ) → (old new : Pixel) → Type 0
IsMade f old new = (new.r ≡ f 0 old.r old) × (new.g ≡ f 1 old.g old) × (new.b ≡ f 2 old.b old) × (new.a ≡ f 3 old.a old)

-- pixel p of a picture
abbrev pub pixel_of : List ℕ → ℕ → Pixel
pixel_of xs p =
    record { r = slice_index xs (p * 4); g = slice_index xs (p * 4 + 1); b = slice_index xs (p * 4 + 2); a = slice_index xs (p * 4 + 3) }

-- byte k of a picture whose channels f has made
abbrev pub pixelwise : (ℕ → ℕ → Pixel → ℕ) → List ℕ → ℕ → ℕ
pixelwise f xs k = f (k % 4) (slice_index xs k) (pixel_of xs (k / 4))

-- the lightness of a pixel
abbrev pub lightness_of : Pixel → ℕ
lightness_of pixel = lightness pixel.r pixel.g pixel.b

-- a new colour; an alpha stays
abbrev pub coloured : (c own colour : ℕ) → ℕ
coloured c own colour = if c == 3 then own else colour

abbrev pub grey : ℕ → ℕ → Pixel → ℕ
grey c own pixel = coloured c own (lightness_of pixel)

abbrev pub inverted : ℕ → ℕ → Pixel → ℕ
inverted c own pixel = coloured c own (255 - own)

abbrev pub parted : (midpoint : ℕ) → ℕ → ℕ → Pixel → ℕ
parted midpoint c own pixel = coloured c own (if nat_le midpoint (lightness_of pixel) then 255 else 0)

abbrev pub brown : ℕ → ℕ → Pixel → ℕ
brown c own pixel = coloured c own (min 255 (lightness_of pixel + tint c))

-- an alpha at a level
abbrev pub faded : (level : ℕ) → ℕ → ℕ → Pixel → ℕ
faded level c own pixel = if c == 3 then lit level own else own

-- a channel by its number
abbrev pub channel : Pixel → ℕ → ℕ
channel pixel c = if c == 0 then pixel.r else (if c == 1 then pixel.g else (if c == 2 then pixel.b else pixel.a))

-- the channel that an order names
abbrev pub reordered : (order : List ℕ) → ℕ → ℕ → Pixel → ℕ
reordered order c own pixel = channel pixel (slice_index order c)
