-- What a filter makes of a row of a picture is that row of what it makes of the picture.
use Rattle.std.proofs.Common.{◌≡◌, ℕ, ◌+◌, ◌*◌, ◌/◌, ◌%◌, ◌<◌, ◌≤◌, true, false, List, length, refl, sym, ap, ◌∙◌, arith}
use Rattle.std.proofs.Math.Nat.{mul-div_cancel}
use Rattle.mlt_base.specs.Mixing.{lit}
use Rattle.mlt_slice.specs.Rows.{row_of, IsWorked, by_bytes}
use Rattle.mlt_slice.proofs.Bytes.{row_byte, rows_are, bytes_are}
use Rattle.mlt_tree.specs.Filters.{filtered, picture_filter}
use Rattle.mlt_tree.specs.Ranges.{IsFilterStep}
use Rattle.mlt_tree.specs.declared.filter.FilterStep.{FilterStep}
use Rattle.mlt_tree.specs.declared.filter.FilterStep.TheVariants.{Brightness, Greyscale, Invert, Mirror, Crop, Threshold, Sepia, Obscure, Opacity, SwapChannels, Volume, Mono, ChannelCopy, ChannelSwap, Silence}
use Rattle.mlt_vfilter.specs.Pixels.{coloured, grey, inverted, parted, brown, faded, reordered}
use Rattle.mlt_vfilter.specs.Rows.{goes_by_rows, filtered_row}
use Rattle.mlt_vfilter.proofs.EachPixel.{pixelwise_row}
use Rattle.mlt_vfilter.proofs.EachPlace.{turned_row_is, cut_row_is, height_is}
use Rattle.mlt_vfilter.proofs.Shapes.{reordered_is}
use Rattle.mlt_vfilter.proofs.Tables.{tabled, length-tabled}

module _ (width rows k i : ℕ) (xs : List ℕ) (within : (k + 1) * (width * 4) ≤ length xs) (lt : i < width * 4) where
  -- a byte of a filter that goes by rows is of its row alone
  filtered_byte : (step : FilterStep) → IsFilterStep step → goes_by_rows step ≡ true → filtered_row step rows k (row_of (width * 4) k xs) i ≡ filtered step width rows xs (k * (width * 4) + i)
  filtered_byte (Brightness level) range goes = pixelwise_row width k i xs lt (λ c own pixel. coloured c own (lit level.0 own))
  filtered_byte Greyscale range goes = pixelwise_row width k i xs lt grey
  filtered_byte Invert range goes = pixelwise_row width k i xs lt inverted
  filtered_byte (Mirror false) range goes = turned_row_is width rows k i xs within lt
  filtered_byte (Mirror true) range goes = let clash : false ≡ true = goes in cc
  filtered_byte (Crop left right top bottom) range goes = cut_row_is left right top bottom width rows k i xs within lt
  filtered_byte (Threshold midpoint) range goes = pixelwise_row width k i xs lt (parted midpoint)
  filtered_byte Sepia range goes = pixelwise_row width k i xs lt brown
  filtered_byte (Obscure size) range goes = let clash : false ≡ true = goes in cc
  filtered_byte (Opacity level) range goes = pixelwise_row width k i xs lt (faded level.0)
  filtered_byte (SwapChannels order) range goes =
      sym (reordered_is order range (row_of (width * 4) k xs) i) ∙ pixelwise_row width k i xs lt (reordered order) ∙ reordered_is order range xs (k * (width * 4) + i)
  filtered_byte (Volume level) range goes = row_byte (width * 4) k i xs lt
  filtered_byte Mono range goes = row_byte (width * 4) k i xs lt
  filtered_byte (ChannelCopy from to) range goes = row_byte (width * 4) k i xs lt
  filtered_byte ChannelSwap range goes = row_byte (width * 4) k i xs lt
  filtered_byte Silence range goes = row_byte (width * 4) k i xs lt

module _ (step : FilterStep) (width rows : ℕ) (xs : List ℕ) (range : IsFilterStep step) (goes : goes_by_rows step ≡ true) (some : 0 < width) where
  -- the same, by the height that the picture has
  of_height : rows ≡ length xs / (width * 4) → (k i : ℕ) → (k + 1) * (width * 4) ≤ length xs → i < width * 4
      → filtered_row step rows k (row_of (width * 4) k xs) i ≡ filtered step width (length xs / 4 / width) xs (k * (width * 4) + i)
  of_height all k i le lt =
      filtered_byte width rows k i xs le lt step range goes ∙ ap (λ h. filtered step width h xs (k * (width * 4) + i)) (all ∙ height_is width (length xs))

  -- a picture whose rows are filtered is the filtered picture
  pub picture_of_rows : (ys : List ℕ) → length xs % (width * 4) ≡ 0 → rows ≡ length xs / (width * 4) → IsWorked (by_bytes (filtered_row step rows)) (width * 4) 0 xs ys → ys ≡ picture_filter step width xs
  picture_of_rows ys whole all is =
      bytes_are (filtered_row step rows) (width * 4) 0 xs ys (filtered step width (length xs / 4 / width) xs) (omega arith) whole
      (λ k i le lt. let own : 0 + k ≡ k = omega arith in ap (λ n. filtered_row step rows n (row_of (width * 4) k xs) i) own ∙ of_height all k i le lt) is

  -- and the rows of the filtered picture are filtered
  pub rows_of_picture : length xs ≡ rows * (width * 4) → IsWorked (by_bytes (filtered_row step rows)) (width * 4) 0 xs (picture_filter step width xs)
  rows_of_picture long =
      let F = filtered step width (length xs / 4 / width) xs in
      let all : rows ≡ length xs / (width * 4) = sym (ap (λ n. n / (width * 4)) long ∙ mul-div_cancel rows (omega arith)) in
      rows_are (filtered_row step rows) (width * 4) 0 xs (picture_filter step width xs) (length-tabled F (length xs) (picture_filter step width xs) refl)
      (λ k i le lt. let own : 0 + k ≡ k = omega arith in
      tabled F (length xs) (k * (width * 4) + i) (picture_filter step width xs) refl (omega (arith, le, lt)) ∙ sym (ap (λ n. filtered_row step rows n (row_of (width * 4) k xs) i) own ∙ of_height all k i le lt))

-- ---- a filter that doesn't

-- what isn't obscure is a vertical mirror
is_turned : (step : FilterStep) → goes_by_rows step ≡ false → ((size : ℕ) → step ≡ Obscure size → ⊥) → step ≡ Mirror true
is_turned (Mirror true) goes other = refl
is_turned (Obscure size) goes other = absurd (other size refl)
is_turned (Brightness level) goes other = let clash : true ≡ false = goes in cc
is_turned Greyscale goes other = let clash : true ≡ false = goes in cc
is_turned Invert goes other = let clash : true ≡ false = goes in cc
is_turned (Mirror false) goes other = let clash : true ≡ false = goes in cc
is_turned (Crop left right top bottom) goes other = let clash : true ≡ false = goes in cc
is_turned (Threshold midpoint) goes other = let clash : true ≡ false = goes in cc
is_turned Sepia goes other = let clash : true ≡ false = goes in cc
is_turned (Opacity level) goes other = let clash : true ≡ false = goes in cc
is_turned (SwapChannels order) goes other = let clash : true ≡ false = goes in cc
is_turned (Volume level) goes other = let clash : true ≡ false = goes in cc
is_turned Mono goes other = let clash : true ≡ false = goes in cc
is_turned (ChannelCopy from to) goes other = let clash : true ≡ false = goes in cc
is_turned ChannelSwap goes other = let clash : true ≡ false = goes in cc
is_turned Silence goes other = let clash : true ≡ false = goes in cc

pub picture_turned : (step : FilterStep) (width : ℕ) (xs ys : List ℕ) → goes_by_rows step ≡ false → ((size : ℕ) → step ≡ Obscure size → ⊥) → ys ≡ picture_filter (Mirror true) width xs → ys ≡ picture_filter step width xs
picture_turned step width xs ys goes other e = e ∙ ap (λ s. picture_filter s width xs) (sym (is_turned step goes other))
