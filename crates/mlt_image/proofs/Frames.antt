-- Bytes of a frame: which are transparent black, and which are of the picture inside it.
use Rattle.std.proofs.Common.{◌≡◌, ℕ, ◌+◌, ◌-◌, ◌*◌, ◌/◌, ◌%◌, ◌<◌, ◌≤◌, ◌⊎◌, inl, inr, Bool, true, false, ◌&&◌, if◌then◌else◌, nat_le, List, length, get_or, refl, sym, ap, ◌∙◌, arith}
use Rattle.std.proofs.Math.Nat.{mul-le-mul_left}
use Rattle.std.proofs.lemmas.Bool.{cases_lt}
use Rattle.std.proofs.lemmas.List.FromFn.{length-map-range_with_len}
use Rattle.std.proofs.lemmas.Bool.Decides.{nat_tests}
use Rattle.std.proofs.lemmas.Nat.{div-mul-add, mod-mul-add, div-add-mod', div_below, le-div, mod_below}
use Rattle.mlt_base.specs.Still.{Picture}
use Rattle.mlt_base.specs.Mixing.{table}
use Rattle.mlt_base.specs.Fitting.{inner, inset, is_taken, along, weighed, channel_at, down, spot_at, stretched_at, framed, fitted}
use Rattle.mlt_image.specs.Kept.{stretched_row}
use Rattle.mlt_image.specs.Bordered.{IsBordered}
use Rattle.mlt_image.proofs.RowsKept.{tabled}

-- ---- a side of a frame

taken : (side count at : ℕ) → inset side count ≤ at → at < inset side count + count → is_taken side count at ≡ true
taken side count at low high = grind (arith, nat_tests)

free_before : (side count at : ℕ) → at < inset side count → is_taken side count at ≡ false
free_before side count at lt = grind (arith, nat_tests)

free_behind : (side count at : ℕ) → inset side count + count ≤ at → is_taken side count at ≡ false
free_behind side count at le = grind (arith, nat_tests)

-- ---- a byte of a frame

-- a value where both tests hold, else 0
both : (a b : Bool) (x : ℕ) → a ≡ true → b ≡ true → (if a && b then x else 0) ≡ x
both a b x e f = rw (e, f) refl

first_fails : (a b : Bool) (x : ℕ) → a ≡ false → (if a && b then x else 0) ≡ 0
first_fails a b x e = rw e refl

second_fails : (a b : Bool) (x : ℕ) → b ≡ false → (if a && b then x else 0) ≡ 0
second_fails true b x e = rw e refl
second_fails false b x e = refl

module _ (source : Picture) (width height wide high : ℕ) where
  framed_inside : (k x y c : ℕ) → k / 4 % width ≡ inset width wide + x → k / 4 / width ≡ inset height high + y → k % 4 ≡ c → x < wide → y < high
      → framed source width height wide high k ≡ stretched_at source wide high x y c
  unfolding framed
  framed_inside k x y c ex ey ec column row =
      let u : inset width wide + x - inset width wide ≡ x = omega arith in
      let v : inset height high + y - inset height high ≡ y = omega arith in
      rw (ex, ey, ec, u, v)
      (both (is_taken width wide (inset width wide + x)) (is_taken height high (inset height high + y)) _ (taken width wide (inset width wide + x) (omega arith) (omega arith)) (taken height high (inset height high + y) (omega arith) (omega arith)))

  framed_beside : (k x : ℕ) → k / 4 % width ≡ x → (x < inset width wide) ⊎ (inset width wide + wide ≤ x) → framed source width height wide high k ≡ 0
  unfolding framed
  framed_beside k x e (inl lt) = rw e (first_fails (is_taken width wide x) _ _ (free_before width wide x lt))
  framed_beside k x e (inr le) = rw e (first_fails (is_taken width wide x) _ _ (free_behind width wide x le))

  framed_apart : (k y : ℕ) → k / 4 / width ≡ y → (y < inset height high) ⊎ (inset height high + high ≤ y) → framed source width height wide high k ≡ 0
  unfolding framed
  framed_apart k y e (inl lt) = rw e (second_fails (is_taken width wide (k / 4 % width)) _ _ (free_before height high y lt))
  framed_apart k y e (inr le) = rw e (second_fails (is_taken width wide (k / 4 % width)) _ _ (free_behind height high y le))

  -- ---- a row

  -- column, row and channel of byte j of row v of those that are taken
  at_row : (v j : ℕ) → j < width * 4
      → ((inset height high * (width * 4) + (v * (width * 4) + j)) / 4 % width ≡ j / 4)
      × ((inset height high * (width * 4) + (v * (width * 4) + j)) / 4 / width ≡ inset height high + v)
      × ((inset height high * (width * 4) + (v * (width * 4) + j)) % 4 ≡ j % 4)
  at_row v j lt =
      let top : ℕ = inset height high in
      let k : ℕ = top * (width * 4) + (v * (width * 4) + j) in
      let place : k ≡ ((top + v) * width) * 4 + j = omega arith in
      let pixel : k / 4 ≡ (top + v) * width + j / 4 = omega arith in (
        ap (λ n. n % width) pixel ∙ mod-mul-add (top + v) width (j / 4) (omega arith),
        ap (λ n. n / width) pixel ∙ div-mul-add (top + v) width (j / 4) (omega arith),
        omega arith,
      )

  -- such a row is as it should be if what is inside it is
  pub row_done : (v : ℕ) (f : ℕ → ℕ) (row : List ℕ) → v < high → wide ≤ width → IsBordered (inset width wide * 4) (wide * 4) f row
      → ((i : ℕ) → i < wide * 4 → f i ≡ stretched_at source wide high (i / 4) v (i % 4))
      → (j : ℕ) → j < width * 4 → get_or row j 0 ≡ framed source width height wide high (inset height high * (width * 4) + (v * (width * 4) + j))
  row_done v f row lt within is each j below = by (cases_lt j (left * 4)) (cases_lt j (left * 4 + wide * 4)) where
    left : ℕ
    left = inset width wide

    k : ℕ
    k = inset height high * (width * 4) + (v * (width * 4) + j)

    by : (j < left * 4) ⊎ (left * 4 ≤ j) → (j < left * 4 + wide * 4) ⊎ (left * 4 + wide * 4 ≤ j) → get_or row j 0 ≡ framed source width height wide high k
    by (inl before) _ = is.before j before ∙ sym (framed_beside k (j / 4) (at_row v j below).0 (inl (omega arith)))
    by (inr from) (inl to) =
        let i : ℕ = j - left * 4 in
        let place : j ≡ left * 4 + i = omega arith in
        ap (λ n. get_or row n 0) place ∙ is.inside i (omega arith) ∙ each i (omega arith)
        ∙ sym (framed_inside k (i / 4) v (i % 4) ((at_row v j below).0 ∙ omega arith) (at_row v j below).1 ((at_row v j below).2 ∙ omega arith) (omega arith) lt)
    by (inr from) (inr behind) =
        let i : ℕ = j - (left * 4 + wide * 4) in
        let place : j ≡ left * 4 + wide * 4 + i = omega arith in
        ap (λ n. get_or row n 0) place ∙ is.behind i ∙ sym (framed_beside k (j / 4) (at_row v j below).0 (inr (omega arith)))

  -- ---- the whole frame

  -- the row of a byte above the picture
  row_above : (k : ℕ) → 1 ≤ width → k < inset height high * (width * 4) → k / 4 / width < inset height high
  row_above k some lt = div_below (k / 4) width (inset height high) some (omega arith)

  -- and of one below it
  row_below : (k : ℕ) → 1 ≤ width → (inset height high + high) * (width * 4) ≤ k → inset height high + high ≤ k / 4 / width
  row_below k some le = le-div (inset height high + high) (k / 4) width some (omega arith)

  -- a frame is as it should be if the rows that are taken are
  pub frame_done : (f : ℕ → ℕ) (bytes : List ℕ) → 1 ≤ width → IsBordered (inset height high * (width * 4)) (high * (width * 4)) f bytes
      → ((i : ℕ) → i < high * (width * 4) → f i ≡ framed source width height wide high (inset height high * (width * 4) + i))
      → (k : ℕ) → get_or bytes k 0 ≡ framed source width height wide high k
  frame_done f bytes some is each k = by (cases_lt k above) (cases_lt k (above + taken_bytes)) where
    above : ℕ
    above = inset height high * (width * 4)

    taken_bytes : ℕ
    taken_bytes = high * (width * 4)

    by : (k < above) ⊎ (above ≤ k) → (k < above + taken_bytes) ⊎ (above + taken_bytes ≤ k) → get_or bytes k 0 ≡ framed source width height wide high k
    by (inl before) _ = is.before k before ∙ sym (framed_apart k (k / 4 / width) refl (inl (row_above k some before)))
    by (inr from) (inl to) =
        let i : ℕ = k - above in
        let place : k ≡ above + i = omega arith in
        ap (λ n. get_or bytes n 0) place ∙ is.inside i (omega arith) ∙ each i (omega arith) ∙ ap (framed source width height wide high) (sym place)
    by (inr from) (inr behind) =
        let i : ℕ = k - (above + taken_bytes) in
        let place : k ≡ above + taken_bytes + i = omega arith in
        ap (λ n. get_or bytes n 0) place ∙ is.behind i ∙ sym (framed_apart k (k / 4 / width) refl (inr (row_below k some (omega arith))))

-- ---- a stretched row

-- byte i of a row that is stretched across at the places of its columns
pub stretched_row_is : (source : Picture) (wide high v i : ℕ) (columns : List ℕ) → columns ≡ table wide (along source.width wide) → i < wide * 4
    → stretched_row source.pixels source.width source.height columns (along source.height high v) i ≡ stretched_at source wide high (i / 4) v (i % 4)
unfolding spot_at
stretched_row_is source wide high v i columns e lt =
    let column : get_or columns (i / 4) 0 ≡ along source.width wide (i / 4) = tabled (along source.width wide) wide (i / 4) columns e (omega arith) in
    rw column refl

-- ---- a picture of the same size

-- a pixel lies where it is
along_same : (pixels at : ℕ) → at < pixels → along pixels pixels at ≡ at * 65536
along_same pixels at lt =
    let middle : ℕ = (2 * at + 1) * 32768 in
    let product : (2 * at + 1) * pixels * 65536 ≡ middle * (2 * pixels) + 0 = omega arith in
    let divided : (2 * at + 1) * pixels * 65536 / (2 * pixels) ≡ middle = ap (λ n. n / (2 * pixels)) product ∙ div-mul-add middle (2 * pixels) 0 (omega arith) in
    omega arith

-- at a whole place a channel is that of the pixel
down_whole : (a b x : ℕ) → down 0 (weighed 0 a b) x ≡ a
down_whole a b x = omega arith

value_same : (source : Picture) (x y u v c : ℕ) → x ≡ u * 65536 → y ≡ v * 65536 → spot_at source x y c ≡ channel_at source.pixels source.width u v c
unfolding spot_at
value_same source x y u v c ex ey =
    let column : x / 65536 ≡ u = omega arith in
    let row : y / 65536 ≡ v = omega arith in
    let across_share : x % 65536 ≡ 0 = omega arith in
    let down_share : y % 65536 ≡ 0 = omega arith in
    rw (column, row, across_share, down_share) (down_whole (channel_at source.pixels source.width u v c) _ _)

-- so a picture that isn't stretched stays
pub stretched_same : (source : Picture) (u v c : ℕ) → u < source.width → v < source.height → stretched_at source source.width source.height u v c ≡ channel_at source.pixels source.width u v c
stretched_same source u v c column row = value_same source _ _ u v c (along_same source.width u column) (along_same source.height v row)

-- nor does a picture that is as large as its place in a frame
pub copied_is : (source : Picture) (wide high v i : ℕ) → wide ≡ source.width → high ≡ source.height → v < high → i < wide * 4
    → get_or source.pixels (v * (wide * 4) + i) 0 ≡ stretched_at source wide high (i / 4) v (i % 4)
copied_is source wide high v i ew eh row lt =
    let place : v * (source.width * 4) + i ≡ (v * source.width + i / 4) * 4 + i % 4 = omega arith in
    rw (ew, eh) (ap (λ n. get_or source.pixels n 0) place ∙ sym (stretched_same source (i / 4) v (i % 4) (omega arith) (omega arith)))

-- a picture takes all of a frame of its own size
inner_same : (own other : ℕ) → inner own other own other ≡ own
inner_same own other =
    let as_wide : nat_le (other * own) (own * other) ≡ true = grind (arith, nat_tests) in
    rw as_wide refl

-- and is the frame then
pub fitted_same : (source : Picture) (k : ℕ) → 1 ≤ source.width → k < source.width * source.height * 4 → fitted source source.width source.height k ≡ get_or source.pixels k 0
fitted_same source k some lt =
    let width = source.width in let height = source.height in
    let x : ℕ = k / 4 % width in
    let y : ℕ = k / 4 / width in
    let column : x < width = mod_below (k / 4) width some in
    let row : y < height = div_below (k / 4) width height some (omega arith) in
    let place : y * width + x ≡ k / 4 = div-add-mod' (k / 4) width in
    rw (inner_same width height, inner_same height width)
    (framed_inside source width height width height k x y (k % 4) (omega arith) (omega arith) refl column row
    ∙ stretched_same source x y (k % 4) column row
    ∙ ap (λ n. get_or source.pixels n 0) (omega arith))

-- rows of a frame lie within it
pub rows_within : (rows width height : ℕ) → rows ≤ height → rows * (width * 4) ≤ width * height * 4
rows_within rows width height le =
    let more : width * rows ≤ width * height = mul-le-mul_left width le in
    omega arith

-- ---- places

-- as many columns as there are
pub columns_are : (pixels width n wide : ℕ) (columns : List ℕ) → columns ≡ table n (along pixels n) → pixels ≡ width → n ≡ wide → columns ≡ table wide (along width wide)
columns_are pixels width n wide columns e ew en = e ∙ ap (λ p. table n (along p n)) ew ∙ ap (λ m. table m (along width m)) en

-- none lies behind the last pixel
pub columns_inside : (width wide : ℕ) (columns : List ℕ) → columns ≡ table wide (along width wide) → (u : ℕ) → u < length columns → get_or columns u 0 ≤ (width - 1) * 65536
columns_inside width wide columns e u lt =
    let long : length columns ≡ wide = ap length e ∙ length-map-range_with_len (along width wide) 0 wide in
    let at : get_or columns u 0 ≡ along width wide u = tabled (along width wide) wide u columns e (omega arith) in
    omega arith
