-- Rows of a source that are kept while it is stretched.
use Rattle.std.specs.Prelude.{ℕ, ◌≡◌, ◌*◌, ◌/◌, ◌%◌, ◌<◌, ◌==◌, if◌then◌else◌, List, [], ◌∷◌, length, slice_index, Some}
use Rattle.mlt_base.specs.Fitting.{next, across, down}
use Rattle.mlt_image.specs.declared.rows.Row.{Row}
use Rattle.mlt_image.specs.declared.rows.Rows.{Rows}

-- the four channels of a pixel
abbrev pub channels : (ℕ → ℕ) → List ℕ
channels f = f 0 ∷ f 1 ∷ f 2 ∷ f 3 ∷ []

-- value k of row y of a source, across at places: four values a place
abbrev pub across_at : List ℕ → ℕ → List ℕ → ℕ → ℕ → ℕ
across_at pixels width places y k = across pixels width (slice_index places (k / 4)) y (k % 4)

-- byte k of the row at a place down a source, across at places
abbrev pub stretched_row : List ℕ → ℕ → ℕ → List ℕ → ℕ → ℕ → ℕ
stretched_row pixels width height places place k =
    down (place % 65536) (across_at pixels width places (place / 65536) k) (across_at pixels width places (next height place) k)

-- the row that is kept where row y of a source is
abbrev pub kept_row : Rows → ℕ → Row
kept_row rows y = if y % 2 == 0 then rows.even else rows.odd

-- the first values are those of the row that is named, where one is
pub record IsRow (pixels : List ℕ) (width : ℕ) (places : List ℕ) (row : Row) : Type 0 where
  pub each : (y : ℕ) → row.y ≡ Some y → (k : ℕ) → k < length places * 4 → slice_index row.values k ≡ across_at pixels width places y k

-- both rows are so
pub record AreRows (pixels : List ℕ) (width : ℕ) (places : List ℕ) (rows : Rows) : Type 0 where
  pub even : IsRow pixels width places rows.even
  pub odd : IsRow pixels width places rows.odd
