-- Formulas of bytes at places, row by row.
use Rattle.std.proofs.Common.{◌≡◌, ℕ, ◌+◌, ◌-◌, ◌*◌, ◌/◌, ◌%◌, ◌<◌, ◌≤◌, ◌||◌, ◌⊎◌, inl, inr, Bool, true, false, if◌then◌else◌, List, length, get_or, refl, sym, ap, ◌∙◌, arith}
use Rattle.std.proofs.Math.Nat.{div-div-eq-div-mul}
use Rattle.std.proofs.lemmas.Nat.{div-mul-add, mod-mul-add}
use Rattle.std.proofs.lemmas.Bool.Decides.{nat_tests}
use Rattle.mlt_base.specs.Mixing.{table}
use Rattle.mlt_slice.specs.Rows.{row_of}
use Rattle.mlt_slice.proofs.Bytes.{row_byte, length-row_of}
use Rattle.mlt_tree.specs.Filters.{is_cut, mirror, crop}
use Rattle.mlt_vfilter.specs.Places.{turned_row, cut_row}
use Rattle.mlt_vfilter.proofs.Tables.{by_rows}

-- ---- places

-- column, row and channel of byte i of row k
pub place_of : (width k i : ℕ) → i < width * 4 → ((k * (width * 4) + i) / 4 % width ≡ i / 4) × ((k * (width * 4) + i) / 4 / width ≡ k) × ((k * (width * 4) + i) % 4 ≡ i % 4)
place_of width k i lt =
    let pixel : (k * (width * 4) + i) / 4 ≡ k * width + i / 4 = omega arith in (
      ap (λ n. n % width) pixel ∙ mod-mul-add k width (i / 4) (omega arith),
      ap (λ n. n / width) pixel ∙ div-mul-add k width (i / 4) (omega arith),
      omega arith,
    )

-- a byte by its row and its place in it, or by its pixel and channel
pub by_pixel : (m width i : ℕ) → m * (width * 4) + i ≡ (m * width + i / 4) * 4 + i % 4
by_pixel m width i = omega arith

-- the bytes of a row that has them all
pixels_of : (width k : ℕ) (xs : List ℕ) → (k + 1) * (width * 4) ≤ length xs → length (row_of (width * 4) k xs) / 4 ≡ width
pixels_of width k xs le = let long = length-row_of (width * 4) k xs le in omega (arith, long)

-- ---- mirrors

mirror_at : (width height k i : ℕ) (xs : List ℕ) → i < width * 4
    → mirror false width height xs (k * (width * 4) + i) ≡ get_or xs ((k * width + (width - 1 - i / 4)) * 4 + i % 4) 0
mirror_at width height k i xs lt = let p = place_of width k i lt in rw (p.0, p.1, p.2) refl

pub turned_row_is : (width height k i : ℕ) (xs : List ℕ) → (k + 1) * (width * 4) ≤ length xs → i < width * 4
    → turned_row (row_of (width * 4) k xs) i ≡ mirror false width height xs (k * (width * 4) + i)
turned_row_is width height k i xs le lt =
    ap (λ n. get_or (row_of (width * 4) k xs) ((n - 1 - i / 4) * 4 + i % 4) 0) (pixels_of width k xs le)
    ∙ row_byte (width * 4) k ((width - 1 - i / 4) * 4 + i % 4) xs (omega arith)
    ∙ ap (λ j. get_or xs j 0) (omega arith)
    ∙ sym (mirror_at width height k i xs lt)

turned_rows_is : (width height k i : ℕ) (xs : List ℕ) → i < width * 4
    → get_or xs ((height - 1 - k) * (width * 4) + i) 0 ≡ mirror true width height xs (k * (width * 4) + i)
turned_rows_is width height k i xs lt =
    let p = place_of width k i lt in
    ap (λ j. get_or xs j 0) (by_pixel (height - 1 - k) width i) ∙ sym (rw (p.0, p.1, p.2) refl)

-- so many rows are in a picture
pub height_is : (width n : ℕ) → n / (width * 4) ≡ n / 4 / width
height_is width n = ap (λ w. n / w) (omega arith) ∙ sym (div-div-eq-div-mul n 4 width)

-- a picture whose rows are turned
pub turned_rows_are : (width : ℕ) (old ys : List ℕ) → 0 < width * 4 → length old % (width * 4) ≡ 0 → length ys ≡ length old
    → ((r i : ℕ) → r < length old / (width * 4) → i < width * 4 → get_or ys (r * (width * 4) + i) 0 ≡ get_or old ((length old / (width * 4) - 1 - r) * (width * 4) + i) 0)
    → ys ≡ table (length old) (mirror true width (length old / 4 / width) old)
turned_rows_are width old ys some whole same each =
    by_rows (width * 4) (mirror true width (length old / 4 / width) old) old ys some whole same
    (λ n i row lt. each n i row lt
    ∙ ap (λ h. get_or old ((h - 1 - n) * (width * 4) + i) 0) (height_is width (length old))
    ∙ turned_rows_is width (length old / 4 / width) n i old lt)

-- ---- crops

-- cut by its row or by its column
cut_by : (a b : Bool) (x : ℕ) → (if b then 0 else (if a then 0 else x)) ≡ (if a || b then 0 else x)
cut_by true true x = refl
cut_by true false x = refl
cut_by false b x = refl

pub cut_row_is : (left right top bottom width height k i : ℕ) (xs : List ℕ) → (k + 1) * (width * 4) ≤ length xs → i < width * 4
    → cut_row left right top bottom height k (row_of (width * 4) k xs) i ≡ crop left right top bottom width height xs (k * (width * 4) + i)
cut_row_is left right top bottom width height k i xs le lt =
    let p = place_of width k i lt in
    let pixels = pixels_of width k xs le in
    let byte = row_byte (width * 4) k i xs lt in
    rw (pixels, byte, p.0, p.1) (cut_by (is_cut left right width (i / 4)) (is_cut top bottom height k) (get_or xs (k * (width * 4) + i) 0))

-- a column of a side that is cut
pub cut_there : (front back side at x : ℕ) → (at < front) ⊎ (side - back ≤ at) → (if is_cut front back side at then 0 else x) ≡ 0
cut_there front back side at x (inl lt) = let e : is_cut front back side at ≡ true = grind (arith, nat_tests, lt) in rw e refl
cut_there front back side at x (inr le) = let e : is_cut front back side at ≡ true = grind (arith, nat_tests, le) in rw e refl

-- and one that isn't
pub kept_there : (front back side at x : ℕ) → front ≤ at → at < side - back → (if is_cut front back side at then 0 else x) ≡ x
kept_there front back side at x le lt = let e : is_cut front back side at ≡ false = grind (arith, nat_tests, le, lt) in rw e refl
