-- Filters of places: what each makes of a row, byte by byte.
use Rattle.std.specs.Prelude.{ℕ, ◌+◌, ◌-◌, ◌*◌, ◌/◌, ◌%◌, if◌then◌else◌, List, length, slice_index}
use Rattle.mlt_tree.specs.Filters.{is_cut, corner}

-- byte i of as many pixels, the last one first
abbrev pub turned : (pixels : ℕ) → List ℕ → ℕ → ℕ
turned pixels row i = slice_index row ((pixels - 1 - i / 4) * 4 + i % 4)

-- byte i of a row, the last pixel first
abbrev pub turned_row : List ℕ → ℕ → ℕ
turned_row row i = turned (length row / 4) row i

-- byte i of a row whose first and last columns are cut
abbrev pub cut_columns : (left right : ℕ) → List ℕ → ℕ → ℕ
cut_columns left right row i = if is_cut left right (length row / 4) (i / 4) then 0 else slice_index row i

-- byte i of row n of so many, of which some are cut, and of the others some columns
abbrev pub cut_row : (left right top bottom height : ℕ) → (n : ℕ) → List ℕ → ℕ → ℕ
cut_row left right top bottom height n row i = if is_cut top bottom height n then 0 else cut_columns left right row i

-- byte i of a row of runs, each of the colour of its first pixel
abbrev pub runs : (size : ℕ) → List ℕ → ℕ → ℕ
runs size row i = slice_index row (corner size (i / 4) * 4 + i % 4)
