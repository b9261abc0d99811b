-- Rows that another picture is laid over.
use Rattle.std.proofs.Common.{◌≡◌, ℕ, ℤ, ◌+◌, ◌-◌, ◌*◌, ◌/◌, ◌%◌, ◌<◌, ◌≤◌, ◌⊎◌, inl, inr, List, length, get_or, take, drop, Option, None, Some, unsigned_abs, to_z, of_z, w32, refl, sym, ap, ◌∙◌, arith, length-take, length-drop}
use Rattle.std.proofs.lemmas.Int.{to_z-of_z, fits_signed_from_abs}
use Rattle.std.proofs.lemmas.Bool.{cases_lt}
use Rattle.std.proofs.lemmas.Nat.{row_fits}
use Rattle.std.proofs.lemmas.List.{get_or-take, get_or-drop}
use Rattle.std.proofs.lemmas.List.FromFn.{length-map-range_with_len, fill_by_all}
use Rattle.mlt_base.specs.declared.geometry.Geometry.{Geometry}
use Rattle.mlt_base.specs.Fitting.{along, spot_at, stretched_at}
use Rattle.mlt_base.specs.Mixing.{table, alpha_at, strength, laid_channel, laid_over}
use Rattle.mlt_base.specs.Still.{Picture}
use Rattle.mlt_image.specs.Kept.{stretched_row}
use Rattle.mlt_image.proofs.Frames.{stretched_same}
use Rattle.mlt_image.proofs.RowsKept.{tabled}
use Rattle.mlt_slice.specs.Rows.{row_of}
use Rattle.mlt_slice.proofs.Bytes.{row_byte}
use Rattle.mlt_tree.specs.Filters.{column, row}
use Rattle.mlt_tree.specs.Merges.{offset_in, composite}
use Rattle.mlt_trans.specs.Placed.{IsVisible, places_of, laid_where, laid_by_row, laid_row}
use Rattle.mlt_trans.proofs.Rowwise.{stays, place_of, alpha_row}

-- ---- what is laid over

-- of the places of all columns, those that are seen
pub places_seen : (pixels taken skip count : ℕ) (all : List ℕ) → all ≡ table taken (along pixels taken) → skip + count ≤ taken → take count (drop skip all) ≡ places_of pixels taken skip count
places_seen pixels taken skip count all e room = fill_by_all (λ j. along pixels taken (skip + j)) (take count (drop skip all)) count 0 long each where
  all_long : length all ≡ taken
  all_long = ap length e ∙ length-map-range_with_len (along pixels taken) 0 taken

  long : length (take count (drop skip all)) ≡ count
  long = simp (length-take, length-drop) (omega (arith, all_long))

  each : (k : ℕ) → k < count → get_or (take count (drop skip all)) k 0 ≡ along pixels taken (skip + k)
  each k lt = get_or-take count (drop skip all) k 0 lt ∙ get_or-drop skip all k 0 ∙ tabled (along pixels taken) taken (skip + k) all e (omega (arith, lt))

-- their places
places_at : (pixels taken skip count u : ℕ) (places : List ℕ) → places ≡ places_of pixels taken skip count → u < count → get_or places u 0 ≡ along pixels taken (skip + u)
places_at pixels taken skip count u places e lt = tabled (λ j. along pixels taken (skip + j)) count u places e lt

pub length-places : (pixels taken skip count : ℕ) (places : List ℕ) → places ≡ places_of pixels taken skip count → length places ≡ count
length-places pixels taken skip count places e = ap length e ∙ length-map-range_with_len (λ j. along pixels taken (skip + j)) 0 count

-- none lies behind the last pixel
pub places_inside : (pixels taken skip count : ℕ) (places : List ℕ) → places ≡ places_of pixels taken skip count → (u : ℕ) → u < length places → get_or places u 0 ≤ (pixels - 1) * 65536
places_inside pixels taken skip count places e u lt =
    let at : get_or places u 0 ≡ along pixels taken (skip + u) = places_at pixels taken skip count u places e (omega (arith, lt, length-places pixels taken skip count places e)) in
    omega arith

-- a row that is stretched across at those places
pub top_stretched : (above : Picture) (wide high v skip count j : ℕ) (places : List ℕ) → places ≡ places_of above.width wide skip count → j < count * 4
    → stretched_row above.pixels above.width above.height places (along above.height high v) j ≡ stretched_at above wide high (skip + j / 4) v (j % 4)
unfolding spot_at
top_stretched above wide high v skip count j places e lt =
    let place : get_or places (j / 4) 0 ≡ along above.width wide (skip + j / 4) = places_at above.width wide skip count (j / 4) places e (omega arith) in
    rw place refl

-- a row of the picture itself, where it has the rectangle's size
pub top_same : (above : Picture) (wide high v skip count j : ℕ) → wide ≡ above.width → high ≡ above.height → v < high → skip + count ≤ wide → j < count * 4
    → get_or above.pixels ((v * above.width + skip) * 4 + j) 0 ≡ stretched_at above wide high (skip + j / 4) v (j % 4)
top_same above wide high v skip count j ew eh below room lt =
    let place : (v * above.width + skip) * 4 + j ≡ (v * above.width + (skip + j / 4)) * 4 + j % 4 = omega arith in
    rw (ew, eh) (ap (λ i. get_or above.pixels i 0) place ∙ sym (stretched_same above (skip + j / 4) v (j % 4) (omega arith) (omega arith)))

-- it lies within the picture
pub top_within : (width height v skip count : ℕ) → v < height → skip + count ≤ width → (v * width + skip) * 4 + count * 4 ≤ width * height * 4
top_within width height v skip count below room =
    let row : v * width + width ≤ height * width = row_fits v width height width below (omega arith) in
    omega (arith, row, room)

-- ---- a row

-- a place near the frame, as a call reads it
pub near_is : (z : ℤ) → unsigned_abs z ≤ 40960 → to_z w32 (of_z w32 z) ≡ z
near_is z near = to_z-of_z w32 z (fits_signed_from_abs w32 z (omega (arith, near)))

-- a row that isn't one of the rectangle's stays
not_laid_at : (opacity : ℕ) (z : ℕ → ℕ → ℕ → ℕ) (row : List ℕ) (i : ℕ) (u : Option ℕ) → get_or row i 0 ≡ laid_where opacity z row i u None
not_laid_at opacity z row i None = refl
not_laid_at opacity z row i (Some u) = refl

pub not_laid : (geometry : Geometry) (above : Picture) (v : Option ℕ) (row : List ℕ) → None ≡ v → row ≡ table (length row) (laid_by_row geometry above v row)
not_laid geometry above v row e =
    rw (← e) (stays (laid_by_row geometry above None row) row (λ i. not_laid_at geometry.opacity (stretched_at above geometry.width geometry.height) row i (offset_in geometry.x geometry.width (i / 4))))

-- byte j of what lies above, at its place in the row
module _ (opacity : ℕ) (z : ℕ → ℕ → ℕ → ℕ) (start : ℤ) (size width from skip count v : ℕ) (old new top : List ℕ)
    (visible : IsVisible start size width from skip count) (long : length top ≡ count * 4)
    (above : (j : ℕ) → j < count * 4 → get_or top j 0 ≡ z (skip + j / 4) v (j % 4))
    (done : (j : ℕ) → j < length top → get_or new (from * 4 + j) 0 ≡ laid_channel (j % 4) (alpha_at old (from * 4 + j)) (strength (alpha_at top j) opacity) (get_or old (from * 4 + j) 0) (get_or top j 0))
    (before : (k : ℕ) → k < from * 4 → get_or new k 0 ≡ get_or old k 0)
    (after : (k : ℕ) → from * 4 + length top ≤ k → get_or new k 0 ≡ get_or old k 0) where
  seen : (j : ℕ) → j < count * 4 → get_or new (from * 4 + j) 0 ≡ laid_where opacity z old (from * 4 + j) (Some (skip + j / 4)) (Some v)
  seen j lt =
      let channel : (from * 4 + j) % 4 ≡ j % 4 = omega arith in
      let byte = above j lt in
      let column : skip + (j / 4 * 4 + 3) / 4 ≡ skip + j / 4 = omega arith in
      let third : (j / 4 * 4 + 3) % 4 ≡ 3 = omega arith in
      let alpha : alpha_at top j ≡ z (skip + j / 4) v 3 = above (j / 4 * 4 + 3) (omega arith) ∙ ap (λ u. z u v ((j / 4 * 4 + 3) % 4)) column ∙ ap (z (skip + j / 4) v) third in
      done j (omega arith)
      ∙ ap (λ b. laid_channel (j % 4) (alpha_at old (from * 4 + j)) (strength (alpha_at top j) opacity) (get_or old (from * 4 + j) 0) b) byte
      ∙ ap (λ a. laid_channel (j % 4) (alpha_at old (from * 4 + j)) (strength a opacity) (get_or old (from * 4 + j) 0) (z (skip + j / 4) v (j % 4))) alpha
      ∙ ap (λ c. laid_channel c (alpha_at old (from * 4 + j)) (strength (z (skip + j / 4) v 3) opacity) (get_or old (from * 4 + j) 0) (z (skip + j / 4) v c)) (sym channel)

  byte_laid : (i : ℕ) → i < width * 4 → get_or new i 0 ≡ laid_where opacity z old i (offset_in start size (i / 4)) (Some v)
  byte_laid i lt = by (cases_lt i (from * 4)) (cases_lt i (from * 4 + count * 4)) where
    by : (i < from * 4) ⊎ (from * 4 ≤ i) → (i < from * 4 + count * 4) ⊎ (from * 4 + count * 4 ≤ i) → get_or new i 0 ≡ laid_where opacity z old i (offset_in start size (i / 4)) (Some v)
    by (inl low) _ =
        let none : offset_in start size (i / 4) ≡ None = visible.before (i / 4) (omega arith) in
        before i low ∙ ap (λ u. laid_where opacity z old i u (Some v)) (sym none)
    by (inr high) (inl low) =
        let j : ℕ = i - from * 4 in
        let place : from * 4 + j ≡ i = omega arith in
        let column : i / 4 ≡ from + j / 4 = omega arith in
        let some : offset_in start size (i / 4) ≡ Some (skip + j / 4) = ap (offset_in start size) column ∙ visible.shown (j / 4) (omega arith) in
        ap (λ k. get_or new k 0) (sym place) ∙ seen j (omega arith)
        ∙ ap (λ k. laid_where opacity z old k (Some (skip + j / 4)) (Some v)) place
        ∙ ap (λ u. laid_where opacity z old i u (Some v)) (sym some)
    by (inr high) (inr past) =
        let none : offset_in start size (i / 4) ≡ None = visible.behind (i / 4) (omega arith) (omega arith) in
        after i (omega arith) ∙ ap (λ u. laid_where opacity z old i u (Some v)) (sym none)

  pub row_laid : length old ≡ width * 4 → length new ≡ length old → new ≡ table (length old) (λ i. laid_where opacity z old i (offset_in start size (i / 4)) (Some v))
  row_laid wide same = fill_by_all (λ i. laid_where opacity z old i (offset_in start size (i / 4)) (Some v)) new (length old) 0 same (λ i lt. byte_laid i (omega (arith, lt, wide)))

-- a part of a row that is laid over
pub part_laid : (opacity from count j : ℕ) (row top : List ℕ) → count % 4 ≡ 0 → j < count
    → laid_over opacity (take count (drop (from * 4) row)) top j
    ≡ laid_channel (j % 4) (alpha_at row (from * 4 + j)) (strength (alpha_at top j) opacity) (get_or row (from * 4 + j) 0) (get_or top j 0)
part_laid opacity from count j row top whole lt =
    let byte : get_or (take count (drop (from * 4) row)) j 0 ≡ get_or row (from * 4 + j) 0 =
    get_or-take count (drop (from * 4) row) j 0 lt ∙ get_or-drop (from * 4) row j 0 in
    let alpha : alpha_at (take count (drop (from * 4) row)) j ≡ alpha_at row (from * 4 + j) =
    get_or-take count (drop (from * 4) row) (j / 4 * 4 + 3) 0 (omega arith) ∙ get_or-drop (from * 4) row (j / 4 * 4 + 3) 0 ∙ ap (λ k. get_or row k 0) (omega arith) in
    rw (byte, alpha) refl

-- ---- a picture

-- bytes of rows are those of the whole picture
module _ (geometry : Geometry) (width height k i : ℕ) (xs zs : List ℕ) (lt : i < width * 4) where
  abbrev above : Picture
  above = record { width = width; height = height; pixels = zs }

  abbrev z : ℕ → ℕ → ℕ → ℕ
  z = stretched_at above geometry.width geometry.height

  at_place : (u v : Option ℕ) → offset_in geometry.x geometry.width (column width (k * (width * 4) + i)) ≡ u → offset_in geometry.y geometry.height (row width (k * (width * 4) + i)) ≡ v
      → laid_where geometry.opacity z (row_of (width * 4) k xs) i u v ≡ composite geometry width height xs zs (k * (width * 4) + i)
  at_place None v eu ev = let x = row_byte (width * 4) k i xs lt in rw (eu, x) refl
  at_place (Some u) None eu ev = let x = row_byte (width * 4) k i xs lt in rw (eu, ev, x) refl
  at_place (Some u) (Some v) eu ev =
      let x = row_byte (width * 4) k i xs lt in
      let alpha = alpha_row width k i xs lt in
      let channel = (place_of width k i lt).2 in
      rw (eu, ev, x, alpha, channel) refl

  pub composite_row : laid_row geometry above k (row_of (width * 4) k xs) i ≡ composite geometry width height xs zs (k * (width * 4) + i)
  composite_row =
      let p = place_of width k i lt in
      at_place (offset_in geometry.x geometry.width (i / 4)) (offset_in geometry.y geometry.height k) (ap (offset_in geometry.x geometry.width) p.0) (ap (offset_in geometry.y geometry.height) p.1)
