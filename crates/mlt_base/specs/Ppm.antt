-- Binary PPM pictures: which texts are one, which picture it is, and the first fault of the others.
use Rattle.std.specs.Prelude.{◌≡◌, ℕ, ◌+◌, ◌*◌, ◌/◌, ◌%◌, ◌<◌, ◌≤◌, ◌⊎◌, Bool, true, false, min, not, List, [], ◌∷◌, ◌++◌, length, take, drop, slice_index, Result, Ok, Err, nat_lt, nat_le, nat_eq, codes, ◌==◌, ◌&&◌, ◌||◌, if◌then◌else◌}
use Rattle.std.specs.List.{concat, starts_with}
use Rattle.mlt_base.specs.declared.fault.PpmFault.{PpmFault}
use Rattle.mlt_base.specs.declared.fault.PpmFault.TheVariants.{NotP6, BadHeader, TooLarge, Short}
use Rattle.mlt_base.specs.declared.limits.TheConstants.{MOST_PIXELS, MOST_SAMPLE}
use Rattle.mlt_base.specs.Mixing.{table}
use Rattle.mlt_base.specs.Still.{Picture}
use Rattle.mlt_base.specs.Reading.{IsNumeral, digit_count, number}
use Rattle.mlt_base.specs.Steps.{◌>>=◌}
use Rattle.mlt_base.specs.Stop.{StopsAt}

-- ---- bytes between the numbers of a header

-- space, TAB, LF, VT, FF or CR
abbrev pub is_white : ℕ → Bool
is_white b = b == 32 || (nat_le 9 b && nat_le b 13)

-- LF or CR
abbrev pub is_line_end : ℕ → Bool
is_line_end b = b == 10 || b == 13

-- ---- samples

-- a sample from 0 to maxval as one from 0 to 255, rounded to the nearest; one above maxval counts as maxval
abbrev pub eight_bits : ℕ → ℕ → ℕ
eight_bits maxval v = (min v maxval * 255 + maxval / 2) / maxval

-- the bytes of a sample
abbrev pub sample_size : ℕ → ℕ
sample_size maxval = if nat_lt maxval 256 then 1 else 2

-- a sample of the raster by its number; of two bytes the first is the most significant
abbrev pub sample : ℕ → List ℕ → ℕ → ℕ
sample maxval raster i =
    if nat_lt maxval 256 then slice_index raster i
    else slice_index raster (i * 2) * 256 + slice_index raster (i * 2 + 1)

-- a byte of the pixels by its number: three samples a pixel, and behind them an alpha of 255
abbrev pub pixel_byte : ℕ → List ℕ → ℕ → ℕ
pixel_byte maxval raster k = if k % 4 == 3 then 255 else eight_bits maxval (sample maxval raster (k / 4 * 3 + k % 4))

-- the bytes of so many pixels
abbrev pub raster_pixels : ℕ → List ℕ → ℕ → List ℕ
raster_pixels maxval raster count = table (count * 4) (pixel_byte maxval raster)

-- the bytes that so many pixels need
abbrev pub needed : ℕ → ℕ → ℕ
needed maxval count = count * 3 * sample_size maxval

-- ---- the grammar, said apart from any reader

-- bytes without the end of a line among them
abbrev pub IsLine : List ℕ → Type 0
IsLine [] = Unit {0}
IsLine (b ∷ bytes) = (is_line_end b ≡ false) × IsLine bytes

-- white space, or a comment from `#`, which is 35, through the end of its line
abbrev pub IsBlank : List ℕ → Type 0
IsBlank text =
    ((b : ℕ) × (is_white b ≡ true) × (text ≡ b ∷ []))
    ⊎ ((line : List ℕ) × (end : ℕ) × IsLine line × (is_line_end end ≡ true) × (text ≡ 35 ∷ (line ++ end ∷ [])))

abbrev pub AreBlank : List (List ℕ) → Type 0
AreBlank [] = Unit {0}
AreBlank (text ∷ texts) = IsBlank text × AreBlank texts

-- one of these or more
abbrev pub IsSeparator : List ℕ → Type 0
IsSeparator text = (blanks : List (List ℕ)) × (0 < length blanks) × AreBlank blanks × (text ≡ concat blanks)

-- a separator, a number, and what has to stand behind that number
abbrev pub IsField : (ℕ → List ℕ → Type 0) → List ℕ → Type 0
IsField Rest text =
    (separator : List ℕ) × (digits : List ℕ) × (rest : List ℕ)
    × IsSeparator separator × IsNumeral digits × Rest (number digits) rest × (text ≡ separator ++ (digits ++ rest))

-- one byte of white space, and then the raster
abbrev pub IsRaster : (List ℕ → Type 0) → List ℕ → Type 0
IsRaster Rest text = (white : ℕ) × (raster : List ℕ) × (is_white white ≡ true) × Rest raster × (text ≡ white ∷ raster)

-- `P6`, and width, height and maxval, each behind a separator, and the raster
abbrev pub IsText : (ℕ → ℕ → ℕ → List ℕ → Type 0) → List ℕ → Type 0
IsText Rest text =
    (fields : List ℕ)
    × IsField (λ width. IsField (λ height. IsField (λ maxval. IsRaster (Rest width height maxval)))) fields
    × (text ≡ 80 ∷ 54 ∷ fields)

-- the text begins with `P6`
abbrev pub IsP6 : List ℕ → Type 0
IsP6 text = (fields : List ℕ) × (text ≡ 80 ∷ 54 ∷ fields)

-- the text has a header, whatever its numbers and its raster are
abbrev pub HasHeader : List ℕ → Type 0
HasHeader text = IsText (λ width height maxval raster. Unit {0}) text

-- a width or a height of a header has to be at least 1
abbrev pub IsSide : ℕ → Type 0
IsSide n = 1 ≤ n

-- and a maxval, the greatest sample, 1 to 65535
abbrev pub IsDepth : ℕ → Type 0
IsDepth n = (1 ≤ n) × (n ≤ MOST_SAMPLE)

-- the raster has all samples of a picture
abbrev pub IsRasterOf : Picture → ℕ → ℕ → ℕ → List ℕ → Type 0
IsRasterOf p width height maxval raster =
    IsSide width × (width ≤ MOST_PIXELS) × IsSide height × (height ≤ MOST_PIXELS) × IsDepth maxval
    × (needed maxval (width * height) ≤ length raster)
    × (p ≡ record { width = width; height = height; pixels = raster_pixels maxval raster (width * height) })

-- the text is this picture
abbrev pub IsPpm : List ℕ → Picture → Type 0
IsPpm text p = IsText (IsRasterOf p) text

-- ---- texts that are no picture though their header is good

-- the numbers are those that a header may have
abbrev pub AreNumbers : ℕ → ℕ → ℕ → Type 0
AreNumbers width height maxval = IsSide width × IsSide height × IsDepth maxval

-- the picture has too many pixels in a row, or too many rows
abbrev pub IsLarge : List ℕ → Type 0
IsLarge text =
    IsText (λ width height maxval raster. AreNumbers width height maxval
    × ((MOST_PIXELS < width) ⊎ (MOST_PIXELS < height))) text

-- the picture isn't too large, and its raster has fewer bytes than its samples need
abbrev pub IsShort : List ℕ → ℕ → ℕ → Type 0
IsShort text have need =
    IsText (λ width height maxval raster. AreNumbers width height maxval
    × (width ≤ MOST_PIXELS) × (height ≤ MOST_PIXELS)
    × (have ≡ length raster) × (need ≡ needed maxval (width * height)) × (have < need)) text

-- ---- numbers of a header that aren't allowed

-- behind a separator stands a number that isn't allowed, with its first digit at this place
abbrev pub IsBad : (ℕ → Type 0) → List ℕ → ℕ → Type 0
IsBad Allowed text at =
    (separator : List ℕ) × (digits : List ℕ) × (rest : List ℕ)
    × IsSeparator separator × IsNumeral digits × (digit_count rest ≡ 0) × ¬ Allowed (number digits)
    × (text ≡ separator ++ (digits ++ rest)) × (at ≡ length separator)

-- behind a separator and a number stands such a place
abbrev pub IsBehind : (List ℕ → ℕ → Type 0) → List ℕ → ℕ → Type 0
IsBehind There text at =
    (separator : List ℕ) × (digits : List ℕ) × (rest : List ℕ) × (k : ℕ)
    × IsSeparator separator × IsNumeral digits × There rest k
    × (text ≡ separator ++ (digits ++ rest)) × (at ≡ length separator + (length digits + k))

-- the place of a width, a height or a maxval that isn't allowed
abbrev pub IsBadNumber : List ℕ → ℕ → Type 0
IsBadNumber text at =
    (fields : List ℕ) × (k : ℕ)
    × (IsBad IsSide fields k ⊎ (IsBehind (IsBad IsSide) fields k ⊎ IsBehind (IsBehind (IsBad IsDepth)) fields k))
    × (text ≡ 80 ∷ 54 ∷ fields) × (at ≡ 2 + k)

-- a place where a header is bad: it can't go on there, or there is a number that isn't allowed
abbrev pub IsFaulty : List ℕ → ℕ → Type 0
IsFaulty text at = StopsAt HasHeader text at ⊎ IsBadNumber text at

-- ---- reading: the picture, or the first fault

-- how many bytes of white space and comments the bytes begin with, from within a comment or not
abbrev pub blank_count : Bool → List ℕ → ℕ
blank_count comment [] = 0
blank_count true (b ∷ bytes) = blank_count (not (is_line_end b)) bytes + 1
blank_count false (b ∷ bytes) =
    if b == 35 then blank_count true bytes + 1
    else if is_white b then blank_count false bytes + 1
    else 0

-- whether a number may be a width or a height of a header, and whether it may be a maxval
abbrev pub is_side : ℕ → Bool
is_side n = nat_le 1 n

abbrev pub is_depth : ℕ → Bool
is_depth n = nat_le 1 n && nat_le n MOST_SAMPLE

-- one or more digits that begin at a place, a number that is allowed: the number, and the place behind it
unfoldable pub number_at : (ℕ → Bool) → ℕ → List ℕ → Result (ℕ × ℕ) PpmFault
number_at allowed at bytes =
    let count = digit_count bytes in
    let value = number (take count bytes) in
    if count == 0 || not (allowed value) then Err (BadHeader at) else Ok (value, at + count)

-- a separator from a place on, and such a number behind it
unfoldable pub field_at : (ℕ → Bool) → ℕ → List ℕ → Result (ℕ × ℕ) PpmFault
field_at allowed at bytes =
    let count = blank_count false bytes in
    if count == 0 then Err (BadHeader at) else number_at allowed (at + count) (drop count bytes)

-- one byte of white space
unfoldable pub white_at : ℕ → List ℕ → Result (Unit {0}) PpmFault
white_at at [] = Err (BadHeader at)
white_at at (b ∷ bytes) = if is_white b then Ok tt else Err (BadHeader at)

-- the numbers of a header, and the place where the raster begins
pub record Numbers : Type 0 where
  pub width : ℕ
  pub height : ℕ
  pub maxval : ℕ
  pub end : ℕ

-- the numbers behind `P6`; how large a picture may be is no matter of its header
unfoldable pub header : List ℕ → Result Numbers PpmFault
header text = do
  width ← field_at is_side 2 (drop 2 text)
  height ← field_at is_side width.1 (drop width.1 text)
  maxval ← field_at is_depth height.1 (drop height.1 text)
  white ← white_at maxval.1 (drop maxval.1 text)
  Ok (record { width = width.0; height = height.0; maxval = maxval.0; end = maxval.1 + 1 })

-- the picture that the numbers of a header and the bytes behind it make
unfoldable pub picture : Numbers → List ℕ → Result Picture PpmFault
picture n raster =
    if nat_lt MOST_PIXELS n.width || nat_lt MOST_PIXELS n.height then Err TooLarge
    else if nat_lt (length raster) (needed n.maxval (n.width * n.height)) then Err (Short (length raster) (needed n.maxval (n.width * n.height)))
    else Ok (record { width = n.width; height = n.height; pixels = raster_pixels n.maxval raster (n.width * n.height) })

-- the picture of a text; of its faults `NotP6` is told first, then a bad header, then its size, and then a short raster
unfoldable pub ppm : List ℕ → Result Picture PpmFault
ppm text =
    if starts_with nat_eq text (codes "P6") then (header text >>= λ n. picture n (drop n.end text))
    else Err NotP6
