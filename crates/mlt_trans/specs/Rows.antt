-- Merges of two pictures, row by row.
use Rattle.std.specs.Prelude.{ℕ, ◌≡◌, ◌*◌, ◌≤◌, nat_lt, if◌then◌else◌, List, length, slice_index, Option}
use Rattle.std.specs.Option.{option_map}
use Rattle.mlt_slice.specs.Rows.{row_of, IsWorked, by_bytes}
use Rattle.mlt_tree.specs.declared.merge.MergeStep.{MergeStep}
use Rattle.mlt_tree.specs.declared.merge.MergeStep.TheVariants.{Luma, Composite, Matte, Mix, Sum}
use Rattle.mlt_tree.specs.Merges.{luma, matte, picture_merge}
use Rattle.mlt_trans.specs.Placed.{laid_row}

-- byte i of what a merge makes of row n, of the same row of the other picture, zs, and of that of its map
abbrev pub merged_there : MergeStep → (map : Option (List ℕ)) → (width height : ℕ) → (zs : List ℕ) → (n : ℕ) → List ℕ → ℕ → ℕ
merged_there (Luma source softness q) map width height zs n row i = luma (option_map (row_of (width * 4) n) map) softness.0 q.0 row (row_of (width * 4) n zs) i
merged_there (Composite geometry) map width height zs n row i = laid_row geometry (record { width = width; height = height; pixels = zs }) n row i
merged_there Matte map width height zs n row i = matte row (row_of (width * 4) n zs) i
merged_there (Mix p frames) map width height zs n row i = slice_index row i
merged_there Sum map width height zs n row i = slice_index row i

-- the same where the pictures have such a row; any other one stays
abbrev pub merged_row : MergeStep → (map : Option (List ℕ)) → (width height : ℕ) → (zs : List ℕ) → (n : ℕ) → List ℕ → ℕ → ℕ
merged_row step map width height zs n row i = if nat_lt n height then merged_there step map width height zs n row i else slice_index row i

-- merges of pictures are merges of their rows
abbrev pub MergesGoByRows : Type 0
MergesGoByRows =
    (step : MergeStep) (map : Option (List ℕ)) (width height : ℕ) (xs zs : List ℕ) → 1 ≤ width → length xs ≡ height * (width * 4)
    → IsWorked (by_bytes (merged_row step map width height zs)) (width * 4) 0 xs (picture_merge step map width xs zs)
