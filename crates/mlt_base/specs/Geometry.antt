-- Geometries: `X/Y:WxH` or `X/Y:WxH:O`, in pixels or hundredths of a profile's size.
use Rattle.std.specs.Prelude.{ℕ, ◌+◌, ◌*◌, ◌/◌, min, max, ℤ, pos, negsuc, neg_ℤ, unsigned_abs, List, [], ◌∷◌, Option, Some, None, Result, Ok, Err, nat_le, if◌then◌else◌}
use Rattle.mlt_base.specs.declared.fault.NumFault.{NumFault}
use Rattle.mlt_base.specs.declared.limits.TheConstants.{MOST_HUNDREDTHS, MOST_OFFSET, MOST_OPACITY, MOST_PIXELS}
use Rattle.mlt_base.specs.Whole.{whole}
use Rattle.mlt_base.specs.Options.{◌>>=◌}
use Rattle.mlt_base.specs.SplitOnce.{split_once}

-- where a picture goes: its left upper corner, its size in pixels, and its opacity in hundredths
pub record Rectangle : Type 0 where
  pub x : ℤ
  pub y : ℤ
  pub width : ℕ
  pub height : ℕ
  pub opacity : ℕ

-- ---- numbers in a range

-- a whole number at most so far from 0
abbrev pub near : ℕ → Result ℤ NumFault → Option ℤ
near limit (Ok z) = if nat_le (unsigned_abs z) limit then Some z else None
near limit (Err fault) = None

-- a whole number from low on
abbrev pub from_low : ℕ → Option ℤ → Option ℕ
from_low low (Some (pos n)) = if nat_le low n then Some n else None
from_low low (Some (negsuc n)) = None
from_low low None = None

unfoldable pub near_zero : ℕ → List ℕ → Option ℤ
near_zero limit text = near limit (whole text)

unfoldable pub counted : ℕ → ℕ → List ℕ → Option ℕ
counted low high text = from_low low (near_zero high text)

-- hundredths of a size, rounded towards 0
abbrev pub hundredths : ℕ → ℤ → ℤ
hundredths size (pos n) = pos (n * size / 100)
hundredths size (negsuc n) = neg_ℤ (pos ((n + 1) * size / 100))

-- ---- the fields; 37 is `%`

-- where a picture begins along a size: in pixels, or in hundredths of the size
abbrev pub offset_from : ℕ → List ℕ → Option (List ℕ × List ℕ) → Option ℤ
offset_from size text None = near_zero MOST_OFFSET text
offset_from size text (Some (front, [])) = near_zero MOST_HUNDREDTHS front >>= λ n. Some (hundredths size n)
offset_from size text (Some (front, b ∷ rest)) = None

unfoldable pub offset : ℕ → List ℕ → Option ℤ
offset size text = offset_from size text (split_once 37 text)

-- how far it goes along a size
abbrev pub extent_from : ℕ → List ℕ → Option (List ℕ × List ℕ) → Option ℕ
extent_from size text None = counted 1 MOST_PIXELS text
extent_from size text (Some (front, [])) =
    counted 1 MOST_HUNDREDTHS front >>= λ n. Some (max 1 (min MOST_PIXELS (n * size / 100)))
extent_from size text (Some (front, b ∷ rest)) = None

unfoldable pub extent : ℕ → List ℕ → Option ℕ
extent size text = extent_from size text (split_once 37 text)

-- ---- the whole; 47 is `/`, 44 is `,`, 58 is `:` and 120 is `x`

-- X and Y, between which `,` may stand for `/`
abbrev pub corner_cut : List ℕ → Option (List ℕ × List ℕ) → Option (List ℕ × List ℕ)
corner_cut text (Some parts) = Some parts
corner_cut text None = split_once 44 text

unfoldable pub corner : ℕ → ℕ → List ℕ → Option (ℤ × ℤ)
corner width height text = do
  parts ← corner_cut text (split_once 47 text)
  x ← offset width parts.0
  y ← offset height parts.1
  Some (x, y)

-- W and H
unfoldable pub area : ℕ → ℕ → List ℕ → Option (ℕ × ℕ)
area width height text = do
  parts ← split_once 120 text
  w ← extent width parts.0
  h ← extent height parts.1
  Some (w, h)

-- W and H with O behind them, which is 100 where nothing is said
abbrev pub area_from : ℕ → ℕ → List ℕ → Option (List ℕ × List ℕ) → Option (ℕ × ℕ × ℕ)
area_from width height text None = area width height text >>= λ size. Some (size.0, size.1, MOST_OPACITY)
area_from width height text (Some (front, rest)) = do
  size ← area width height front
  opacity ← counted 0 MOST_OPACITY rest
  Some (size.0, size.1, opacity)

unfoldable pub shape : ℕ → ℕ → List ℕ → Option (ℕ × ℕ × ℕ)
shape width height text = area_from width height text (split_once 58 text)

-- a geometry in a profile of a width and a height
unfoldable pub geometry : ℕ → ℕ → List ℕ → Option Rectangle
geometry width height text = do
  halves ← split_once 58 text
  first ← corner width height halves.0
  second ← shape width height halves.1
  Some (record { x = first.0; y = first.1; width = second.0; height = second.1; opacity = second.2 })
