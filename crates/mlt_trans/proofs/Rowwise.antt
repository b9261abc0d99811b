-- Bytes of pictures, by their rows.
use Rattle.std.proofs.Common.{◌≡◌, ℕ, ◌+◌, ◌*◌, ◌/◌, ◌%◌, ◌<◌, List, length, get_or, refl, ap, ◌∙◌, arith}
use Rattle.std.proofs.lemmas.Nat.{div-mul-add, mod-mul-add}
use Rattle.std.proofs.lemmas.List.FromFn.{fill_by_all}
use Rattle.mlt_base.specs.Mixing.{table, dissolved, alpha_at}
use Rattle.mlt_slice.specs.Rows.{row_of}
use Rattle.mlt_slice.proofs.Bytes.{row_byte}
use Rattle.mlt_tree.specs.Filters.{lightness_at}
use Rattle.mlt_tree.specs.Merges.{matte}

-- column, row and channel of byte i of row k
pub place_of : (width k i : ℕ) → i < width * 4 → ((k * (width * 4) + i) / 4 % width ≡ i / 4) × ((k * (width * 4) + i) / 4 / width ≡ k) × ((k * (width * 4) + i) % 4 ≡ i % 4)
place_of width k i lt =
    let pixel : (k * (width * 4) + i) / 4 ≡ k * width + i / 4 = omega arith in (
      ap (λ n. n % width) pixel ∙ mod-mul-add k width (i / 4) (omega arith),
      ap (λ n. n / width) pixel ∙ div-mul-add k width (i / 4) (omega arith),
      omega arith,
    )

-- ---- a row that stays

-- any list is the table of its values
pub own_table : (xs : List ℕ) → xs ≡ table (length xs) (λ k. get_or xs k 0)
own_table xs = fill_by_all (λ k. get_or xs k 0) xs (length xs) 0 refl (λ k lt. refl)

-- a row each byte of which is as it was
pub stays : (f : ℕ → ℕ) (row : List ℕ) → ((i : ℕ) → get_or row i 0 ≡ f i) → row ≡ table (length row) f
stays f row each = fill_by_all f row (length row) 0 refl (λ k lt. each k)

-- ---- formulas of bytes are of their own rows

pub dissolved_row : (q w k i : ℕ) (xs zs : List ℕ) → i < w → dissolved q (row_of w k xs) (row_of w k zs) i ≡ dissolved q xs zs (k * w + i)
dissolved_row q w k i xs zs lt =
    let x = row_byte w k i xs lt in
    let z = row_byte w k i zs lt in
    rw (x, z) refl

-- a byte of the pixel of byte i
pixel_byte : (width k i c : ℕ) (xs : List ℕ) → c < 4 → i < width * 4 → get_or (row_of (width * 4) k xs) (i / 4 * 4 + c) 0 ≡ get_or xs ((k * (width * 4) + i) / 4 * 4 + c) 0
pixel_byte width k i c xs small lt = row_byte (width * 4) k (i / 4 * 4 + c) xs (omega arith) ∙ ap (λ j. get_or xs j 0) (omega arith)

first_byte : (width k i : ℕ) (xs : List ℕ) → i < width * 4 → get_or (row_of (width * 4) k xs) (i / 4 * 4) 0 ≡ get_or xs ((k * (width * 4) + i) / 4 * 4) 0
first_byte width k i xs lt = row_byte (width * 4) k (i / 4 * 4) xs (omega arith) ∙ ap (λ j. get_or xs j 0) (omega arith)

pub luma_row : (width k i : ℕ) (xs : List ℕ) → i < width * 4 → lightness_at (row_of (width * 4) k xs) i ≡ lightness_at xs (k * (width * 4) + i)
luma_row width k i xs lt =
    let r = first_byte width k i xs lt in
    let g = pixel_byte width k i 1 xs (omega arith) lt in
    let b = pixel_byte width k i 2 xs (omega arith) lt in
    rw (r, g, b) refl

pub alpha_row : (width k i : ℕ) (xs : List ℕ) → i < width * 4 → alpha_at (row_of (width * 4) k xs) i ≡ alpha_at xs (k * (width * 4) + i)
alpha_row width k i xs lt = pixel_byte width k i 3 xs (omega arith) lt

pub matte_row : (width k i : ℕ) (xs zs : List ℕ) → i < width * 4 → matte (row_of (width * 4) k xs) (row_of (width * 4) k zs) i ≡ matte xs zs (k * (width * 4) + i)
matte_row width k i xs zs lt =
    let light = luma_row width k i zs lt in
    let x = row_byte (width * 4) k i xs lt in
    let channel = (place_of width k i lt).2 in
    rw (light, x, channel) refl
