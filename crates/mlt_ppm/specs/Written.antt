-- A picture as a PPM file.
use Rattle.std.specs.Prelude.{◌≡◌, ℕ, ◌+◌, ◌*◌, ◌/◌, ◌%◌, ◌<◌, List, ◌++◌, map, length, slice_index, codes, decimal}
use Rattle.std.specs.List.{range_with_len}
use Rattle.mlt_base.specs.Still.{Picture}

-- `P6`, LF, width, a space, height, LF, `255`, LF
abbrev pub header_text : ℕ → ℕ → List ℕ
header_text width height = codes "P6\n" ++ (decimal width ++ (codes " " ++ (decimal height ++ codes "\n255\n")))

-- a byte of the raster by its number: the red, green and blue of each pixel
abbrev pub colour : List ℕ → ℕ → ℕ
colour pixels k = slice_index pixels (k / 3 * 4 + k % 3)

abbrev pub colours : List ℕ → List ℕ
colours pixels = map (colour pixels) (range_with_len 0 (length pixels / 4 * 3))

-- the whole file
abbrev pub ppm_text : Picture → List ℕ
ppm_text p = header_text p.width p.height ++ colours p.pixels

-- no pixel shows what lies under it
abbrev pub IsOpaque : List ℕ → Type 0
IsOpaque pixels = (k : ℕ) → k * 4 + 3 < length pixels → slice_index pixels (k * 4 + 3) ≡ 255
