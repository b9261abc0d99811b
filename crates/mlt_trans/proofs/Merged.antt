-- Merges of pictures are merges of their rows.
use Rattle.std.proofs.Common.{◌≡◌, ℕ, ◌+◌, ◌*◌, ◌/◌, ◌%◌, ◌<◌, ◌≤◌, nat_lt, true, false, List, length, Option, None, Some, refl, sym, ap, ◌∙◌, arith}
use Rattle.std.proofs.Math.Nat.{le_of_mul-le-mul_right}
use Rattle.std.proofs.lemmas.List.FromFn.{length-map-range_with_len}
use Rattle.mlt_image.proofs.RowsKept.{tabled}
use Rattle.std.proofs.lemmas.Nat.{div-mul-add, mod-mul-add}
use Rattle.std.proofs.lemmas.Bool.Decides.{nat_tests}
use Rattle.mlt_base.specs.Mixing.{table}
use Rattle.mlt_slice.specs.Rows.{row_of, IsWorked, by_bytes}
use Rattle.mlt_slice.proofs.Bytes.{row_byte, rows_are, bytes_are}
use Rattle.mlt_tree.specs.declared.merge.MergeStep.{MergeStep}
use Rattle.mlt_tree.specs.declared.merge.MergeStep.TheVariants.{Luma, Composite, Matte, Mix, Sum}
use Rattle.mlt_tree.specs.Merges.{merged, picture_merge}
use Rattle.mlt_trans.specs.Rows.{merged_there, merged_row}
use Rattle.mlt_trans.proofs.Rowwise.{stays, dissolved_row, matte_row}
use Rattle.mlt_trans.proofs.Wiped.{wiped_row}
use Rattle.mlt_trans.proofs.Laid.{composite_row}

-- a byte of a row
byte_merged : (step : MergeStep) (map : Option (List ℕ)) (width height k i : ℕ) (xs zs : List ℕ) → i < width * 4
    → merged_there step map width height zs k (row_of (width * 4) k xs) i ≡ merged step map width height xs zs (k * (width * 4) + i)
byte_merged (Luma source softness q) None width height k i xs zs lt = dissolved_row q.0 (width * 4) k i xs zs lt
byte_merged (Luma source softness q) (Some map) width height k i xs zs lt = wiped_row softness.0 q.0 width k i map xs zs lt
byte_merged (Composite geometry) map width height k i xs zs lt = composite_row geometry width height k i xs zs lt
byte_merged Matte map width height k i xs zs lt = matte_row width k i xs zs lt
byte_merged (Mix p frames) map width height k i xs zs lt = row_byte (width * 4) k i xs lt
byte_merged Sum map width height k i xs zs lt = row_byte (width * 4) k i xs lt

-- a row that isn't there stays
pub row_left : (step : MergeStep) (map : Option (List ℕ)) (width height : ℕ) (zs : List ℕ) (n : ℕ) (row : List ℕ) → height ≤ n → row ≡ table (length row) (merged_row step map width height zs n row)
row_left step map width height zs n row le =
    let behind : nat_lt n height ≡ false = grind (arith, nat_tests, le) in
    stays (merged_row step map width height zs n row) row (λ i. rw behind refl)

module _ (step : MergeStep) (map : Option (List ℕ)) (width height : ℕ) (xs zs : List ℕ) (some : 1 ≤ width) (long : length xs ≡ height * (width * 4)) where
  high : length xs / 4 / width ≡ height
  high =
      let pixels : length xs / 4 ≡ height * width + 0 = omega (arith, long) in
      ap (λ n. n / width) pixels ∙ div-mul-add height width 0 (omega arith)

  each : (k i : ℕ) → (k + 1) * (width * 4) ≤ length xs → i < width * 4
      → merged_row step map width height zs (0 + k) (row_of (width * 4) k xs) i ≡ merged step map width (length xs / 4 / width) xs zs (k * (width * 4) + i)
  each k i le lt =
      let number : 0 + k ≡ k = omega arith in
      let below : k + 1 ≤ height = le_of_mul-le-mul_right {k = width * 4} (omega (arith, le, long)) (omega arith) in
      let there : nat_lt k height ≡ true = grind (arith, nat_tests, below) in
      rw (number, there, high) (byte_merged step map width height k i xs zs lt)

  -- rows that are merged one by one are a picture that is
  pub picture_merged : (ys : List ℕ) → IsWorked (by_bytes (merged_row step map width height zs)) (width * 4) 0 xs ys → ys ≡ picture_merge step map width xs zs
  picture_merged ys worked =
      let rows : length xs ≡ height * (width * 4) + 0 = omega (arith, long) in
      let whole : length xs % (width * 4) ≡ 0 = ap (λ n. n % (width * 4)) rows ∙ mod-mul-add height (width * 4) 0 (omega arith) in
      bytes_are (merged_row step map width height zs) (width * 4) 0 xs ys (merged step map width (length xs / 4 / width) xs zs) (omega arith) whole each worked

  -- and the other way round
  pub rows_merged : IsWorked (by_bytes (merged_row step map width height zs)) (width * 4) 0 xs (picture_merge step map width xs zs)
  rows_merged =
      let count = length xs in
      let made = picture_merge step map width xs zs in
      rows_are (merged_row step map width height zs) (width * 4) 0 xs made (length-map-range_with_len (merged step map width (count / 4 / width) xs zs) 0 count)
      (λ k i le lt. tabled (merged step map width (count / 4 / width) xs zs) count (k * (width * 4) + i) made refl (omega (arith, le, lt)) ∙ sym (each k i le lt))
