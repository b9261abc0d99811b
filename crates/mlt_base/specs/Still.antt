-- Pictures that stand still.
use Rattle.std.specs.Prelude.{◌≡◌, ℕ, ◌*◌, ◌≤◌, List, length}
use Rattle.mlt_base.specs.declared.limits.TheConstants.{MOST_PIXELS}

-- a picture: rows from the top, four bytes a pixel, which are red, green, blue and alpha
pub record Picture : Type 0 where
  pub width : ℕ
  pub height : ℕ
  pub pixels : List ℕ

-- each side has a pixel, and not too many, and the bytes are those of all of them
pub record IsPicture (p : Picture) : Type 0 where
  pub width_from : 1 ≤ p.width
  pub width_to : p.width ≤ MOST_PIXELS
  pub height_from : 1 ≤ p.height
  pub height_to : p.height ≤ MOST_PIXELS
  pub sized : length p.pixels ≡ p.width * p.height * 4
