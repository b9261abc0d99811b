-- Squares of one colour: runs of pixels in a row, and rows that are as the first one of their square.
use Rattle.std.proofs.Common.{◌≡◌, ℕ, zero, suc, ◌+◌, ◌-◌, ◌*◌, ◌/◌, ◌%◌, ◌<◌, ◌≤◌, ◌⊎◌, inl, inr, List, length, get_or, refl, sym, ap, ◌∙◌, arith}
use Rattle.std.proofs.lemmas.Bool.{cases_lt}
use Rattle.std.proofs.lemmas.Nat.{row_fits, mod-mul-add, div-add-mod', mod_below}
use Rattle.std.proofs.Math.Nat.{add-mod_right}
use Rattle.mlt_base.specs.Mixing.{table}
use Rattle.mlt_tree.specs.Filters.{corner, obscure}
use Rattle.mlt_vfilter.specs.Places.{runs}
use Rattle.mlt_vfilter.proofs.Tables.{by_rows}
use Rattle.mlt_vfilter.proofs.EachPlace.{place_of}

-- ---- corners

-- the first place of a square is its own corner
pub corner_first : (size at : ℕ) → at % size ≡ 0 → corner size at ≡ at
corner_first size at e = omega arith

-- the places behind it have its corner
pub corner_within : (size first j : ℕ) → first % size ≡ 0 → j < size → corner size (first + j) ≡ first
corner_within size first j e lt =
    let q : ℕ = first / size in
    let whole : q * size ≡ first = (let d = div-add-mod' first size in omega (arith, d)) in
    let rest : (first + j) % size ≡ j = ap (λ n. (n + j) % size) (sym whole) ∙ mod-mul-add q size j lt in
    omega arith

-- any other place has the corner of the one before it
pub corner_next : (size at : ℕ) → 1 ≤ size → 0 < at % size → corner size (at - 1) ≡ corner size at
corner_next size at some lt =
    let q : ℕ = at / size in
    let whole : q * size + at % size ≡ at = div-add-mod' at size in
    let below : at % size < size = mod_below at size some in
    let before : at - 1 ≡ q * size + (at % size - 1) = omega (arith, whole) in
    let rest : (at - 1) % size ≡ at % size - 1 = ap (λ n. n % size) before ∙ mod-mul-add q size (at % size - 1) (omega arith) in
    omega (arith, whole, rest)

-- ---- a row

-- channel c of pixel p, which is in the run that begins with a pixel
run_at : (size : ℕ) (row : List ℕ) (from k : ℕ) → from % size ≡ 0 → from * 4 ≤ k → k < (from + size) * 4 → runs size row k ≡ get_or row (from * 4 + k % 4) 0
run_at size row from k e le lt =
    let p : k / 4 ≡ from + (k / 4 - from) = omega arith in
    let c : corner size (k / 4) ≡ from = ap (corner size) p ∙ corner_within size from (k / 4 - from) e (omega arith) in
    ap (λ n. get_or row (n * 4 + k % 4) 0) c

-- one run more
module _ (size from more : ℕ) (old xs ys : List ℕ) (first : from % size ≡ 0) (few : more ≤ size)
    (done : (k : ℕ) → k < from * 4 → get_or xs k 0 ≡ runs size old k)
    (left : (k : ℕ) → from * 4 ≤ k → get_or xs k 0 ≡ get_or old k 0)
    (made : (k : ℕ) → from * 4 ≤ k → k < (from + more) * 4 → get_or ys k 0 ≡ get_or xs (from * 4 + k % 4) 0)
    (before : (k : ℕ) → k < from * 4 → get_or ys k 0 ≡ get_or xs k 0) where
  pub runs_done : (k : ℕ) → k < (from + more) * 4 → get_or ys k 0 ≡ runs size old k
  runs_done k lt = by (cases_lt k (from * 4)) where
    by : (k < from * 4) ⊎ (from * 4 ≤ k) → get_or ys k 0 ≡ runs size old k
    by (inl low) = before k low ∙ done k low
    by (inr high) = made k high lt ∙ left (from * 4 + k % 4) (omega arith) ∙ sym (run_at size old from k first high (omega arith))

-- the next run begins with a whole number of runs before it
pub next_run : (size from : ℕ) → from % size ≡ 0 → (from + size) % size ≡ 0
next_run size from e = add-mod_right from size ∙ e

-- a pixel's first byte in its row
pub runs_within : (size i w : ℕ) → w % 4 ≡ 0 → i < w → corner size (i / 4) * 4 + i % 4 < w
runs_within size i w whole lt = omega arith

-- ---- rows

-- a row that isn't the first of its square has one before it
pub next_row : (y size : ℕ) → 1 ≤ size → 0 < y % size → y - 1 + 1 ≡ y
next_row y size some more = omega (arith, div-add-mod' y size)

-- byte i of row n
abbrev pub square : (size w : ℕ) → List ℕ → ℕ → ℕ → ℕ
square size w old n i = get_or old (corner size n * w + (corner size (i / 4) * 4 + i % 4)) 0

module _ (size w y : ℕ) (old xs ys : List ℕ) (some : 1 ≤ size)
    (done : (n i : ℕ) → n < y → i < w → get_or xs (n * w + i) 0 ≡ square size w old n i)
    (left : (j : ℕ) → y * w ≤ j → get_or xs j 0 ≡ get_or old j 0)
    (first : y % size ≡ 0 → (i : ℕ) → i < w → get_or ys (y * w + i) 0 ≡ get_or xs (y * w + (i / 4 - i / 4 % size) * 4 + i % 4) 0)
    (next : 0 < y % size → (i : ℕ) → i < w → get_or ys (y * w + i) 0 ≡ get_or xs ((y - 1) * w + i) 0)
    (before : (k : ℕ) → k < y * w → get_or ys k 0 ≡ get_or xs k 0) where
  here : (i : ℕ) → i < w → (y % size ≡ 0) ⊎ (0 < y % size) → get_or ys (y * w + i) 0 ≡ square size w old y i
  here i lt (inl e) =
      let c = corner size (i / 4) in
      first e i lt
      ∙ left (y * w + c * 4 + i % 4) (omega arith)
      ∙ ap (λ j. get_or old j 0) (omega arith)
      ∙ ap (λ n. get_or old (n * w + (c * 4 + i % 4)) 0) (sym (corner_first size y e))
  here i lt (inr more) =
      let some_row : y - 1 + 1 ≡ y = next_row y size some more in
      next more i lt ∙ done (y - 1) i (omega arith) lt ∙ ap (λ n. get_or old (n * w + (corner size (i / 4) * 4 + i % 4)) 0) (corner_next size y some more)

  zero_or_more : (n : ℕ) → (n ≡ 0) ⊎ (0 < n)
  zero_or_more zero = inl refl
  zero_or_more (suc n) = inr (omega arith)

  pub squares_done : (n i : ℕ) → n < y + 1 → i < w → get_or ys (n * w + i) 0 ≡ square size w old n i
  squares_done n i lt small = by (cases_lt n y) where
    by : (n < y) ⊎ (y ≤ n) → get_or ys (n * w + i) 0 ≡ square size w old n i
    by (inl low) =
        let fits : n * w + w ≤ y * w = row_fits n w y w low (omega arith) in
        before (n * w + i) (omega (arith, fits)) ∙ done n i low small
    by (inr from) = let same : n ≡ y = omega arith in rw same (here i small (zero_or_more (y % size)))

-- such rows are the picture
squares_at : (size width k i : ℕ) (old : List ℕ) → i < width * 4 → obscure size width old (k * (width * 4) + i) ≡ get_or old ((corner size k * width + corner size (i / 4)) * 4 + i % 4) 0
squares_at size width k i old lt = let p = place_of width k i lt in rw (p.0, p.1, p.2) refl

index : (a b c width : ℕ) → a * (width * 4) + (b * 4 + c) ≡ (a * width + b) * 4 + c
index a b c width = omega arith

squares_are : (size width k i : ℕ) (old : List ℕ) → i < width * 4 → square size (width * 4) old k i ≡ obscure size width old (k * (width * 4) + i)
squares_are size width k i old lt =
    ap (λ j. get_or old j 0) (index (corner size k) (corner size (i / 4)) (i % 4) width) ∙ sym (squares_at size width k i old lt)

pub squares_picture : (size width : ℕ) (old ys : List ℕ) → 0 < width * 4 → length old % (width * 4) ≡ 0 → length ys ≡ length old
    → ((n i : ℕ) → n < length old / (width * 4) → i < width * 4 → get_or ys (n * (width * 4) + i) 0 ≡ square size (width * 4) old n i)
    → ys ≡ table (length old) (obscure size width old)
squares_picture size width old ys some whole same each =
    by_rows (width * 4) (obscure size width old) old ys some whole same (λ n i row lt. each n i row lt ∙ squares_are size width n i old lt)
