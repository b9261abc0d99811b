-- A picture laid over the rows of another one, at a place and a size.
use Rattle.std.specs.Prelude.{ℕ, ℤ, ◌≡◌, ◌+◌, ◌/◌, ◌%◌, ◌<◌, ◌≤◌, List, slice_index, Option, None, Some}
use Rattle.mlt_base.specs.declared.geometry.Geometry.{Geometry}
use Rattle.mlt_base.specs.Fitting.{along, stretched_at}
use Rattle.mlt_base.specs.Mixing.{table, alpha_at}
use Rattle.mlt_base.specs.Still.{Picture}
use Rattle.mlt_tree.specs.Merges.{offset_in, laid_by}

-- of the places of a frame's side, so many from one on show a rectangle: the first of them its place skip, and so on;
-- no other place shows any of it
pub record IsVisible (start : ℤ) (size side from skip count : ℕ) : Type 0 where
  pub shown : (j : ℕ) → j < count → offset_in start size (from + j) ≡ Some (skip + j)
  pub before : (at : ℕ) → at < from → offset_in start size at ≡ None
  pub behind : (at : ℕ) → from + count ≤ at → at < side → offset_in start size at ≡ None
  pub inside : from + count ≤ side
  pub own : skip + count ≤ size

-- the places along a picture of so many columns that a rectangle's columns have, without the skipped ones
abbrev pub places_of : (pixels taken skip count : ℕ) → List ℕ
places_of pixels taken skip count = table count (λ j. along pixels taken (skip + j))

-- byte i of a row with the pixel in column u and row v of z laid over it, if it is in both
abbrev pub laid_where : (opacity : ℕ) → (z : ℕ → ℕ → ℕ → ℕ) → (row : List ℕ) → (i : ℕ) → (u v : Option ℕ) → ℕ
laid_where opacity z row i None v = slice_index row i
laid_where opacity z row i (Some u) None = slice_index row i
laid_where opacity z row i (Some u) (Some v) = laid_by opacity (z u v) (i % 4) (alpha_at row i) (slice_index row i)

-- byte i of a row with row v of a picture laid over it that is stretched to a geometry
abbrev pub laid_by_row : Geometry → Picture → (v : Option ℕ) → List ℕ → ℕ → ℕ
laid_by_row geometry above v row i = laid_where geometry.opacity (stretched_at above geometry.width geometry.height) row i (offset_in geometry.x geometry.width (i / 4)) v

-- byte i of row n with such a picture laid over it
abbrev pub laid_row : Geometry → Picture → (n : ℕ) → List ℕ → ℕ → ℕ
laid_row geometry above n row i = laid_by_row geometry above (offset_in geometry.y geometry.height n) row i
