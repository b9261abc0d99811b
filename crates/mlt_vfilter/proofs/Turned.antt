-- Pixels and rows that are exchanged with those at the other end.
use Rattle.std.proofs.Common.{◌≡◌, ℕ, ◌+◌, ◌-◌, ◌*◌, ◌/◌, ◌%◌, ◌<◌, ◌≤◌, ◌⊎◌, inl, inr, List, ◌++◌, length, get_or, refl, sym, ap, ◌∙◌, arith, ⊎_elim}
use Rattle.std.proofs.lemmas.Bool.{cases_lt}
use Rattle.std.proofs.lemmas.Nat.{row_fits}
use Rattle.std.proofs.lemmas.List.{get_or_append_left, get_or-append_right}
use Rattle.mlt_kernel.specs.Words.{four}
use Rattle.mlt_kernel.proofs.Writes.{four_at, four_other}
use Rattle.mlt_vfilter.specs.Places.{turned, turned_row}

-- channel c of pixel p
turned_at : (pixels : ℕ) (xs : List ℕ) (p c k : ℕ) → k ≡ p * 4 + c → c < 4 → turned pixels xs k ≡ get_or xs ((pixels - 1 - p) * 4 + c) 0
turned_at pixels xs p c k e lt =
    let q : k / 4 ≡ p = omega arith in
    let m : k % 4 ≡ c = omega arith in
    rw (q, m) refl

-- the four bytes of a pixel are those of the pixel at the other end
pub turned_pixel : (pixels : ℕ) (xs : List ℕ) (p other : ℕ) → other ≡ (pixels - 1 - p) * 4
    → (get_or xs other 0 ≡ turned pixels xs (p * 4)) × (get_or xs (other + 1) 0 ≡ turned pixels xs (p * 4 + 1)) × (get_or xs (other + 2) 0 ≡ turned pixels xs (p * 4 + 2)) × (get_or xs (other + 3) 0 ≡ turned pixels xs (p * 4 + 3))
turned_pixel pixels xs p other e = (
  ap (λ j. get_or xs j 0) (omega arith) ∙ sym (turned_at pixels xs p 0 (p * 4) (omega arith) (omega arith)),
  ap (λ j. get_or xs j 0) (omega arith) ∙ sym (turned_at pixels xs p 1 (p * 4 + 1) refl (omega arith)),
  ap (λ j. get_or xs j 0) (omega arith) ∙ sym (turned_at pixels xs p 2 (p * 4 + 2) refl (omega arith)),
  ap (λ j. get_or xs j 0) (omega arith) ∙ sym (turned_at pixels xs p 3 (p * 4 + 3) refl (omega arith)),
)

-- bytes that are F of their places behind the four are so from the four on, if the four are
pub put_back : (F : ℕ → ℕ) (xs ys : List ℕ) (high i a b c d : ℕ) → ys ≡ four xs i a b c d → i + 4 ≤ length xs
    → ((k : ℕ) → i + 4 ≤ k → k < high → get_or xs k 0 ≡ F k) → a ≡ F i → b ≡ F (i + 1) → c ≡ F (i + 2) → d ≡ F (i + 3)
    → (k : ℕ) → i ≤ k → k < high → get_or ys k 0 ≡ F k
put_back F xs ys high i a b c d e le behind ea eb ec ed k above below =
    let at = four_at xs i a b c d le in
    let other = four_other xs i a b c d k in
    grind (arith, behind k, other, at.0, at.1, at.2, at.3)

-- ---- a row of two halves, and a pixel between them where their number is odd

module _ (old front middle back new_front new_back : List ℕ) (half : ℕ) (whole : length old % 4 ≡ 0) (halved : half ≡ length old / 8 * 4)
    (front_is : (k : ℕ) → k < half → get_or front k 0 ≡ get_or old k 0)
    (middle_is : (k : ℕ) → k < length old - half - half → get_or middle k 0 ≡ get_or old (half + k) 0)
    (back_is : (k : ℕ) → k < half → get_or back k 0 ≡ get_or old (length old - half + k) 0)
    (front_long : length new_front ≡ half) (middle_long : length middle ≡ length old - half - half)
    (front_new : (k : ℕ) → k < half → get_or new_front k 0 ≡ turned (half / 4) back k)
    (back_new : (k : ℕ) → k < half → get_or new_back k 0 ≡ turned (half / 4) front k) where
  -- a byte before the middle
  before : (k : ℕ) → k < half → get_or (new_front ++ (middle ++ new_back)) k 0 ≡ turned_row old k
  before k lt =
      get_or_append_left new_front (middle ++ new_back) 0 k (omega arith)
      ∙ front_new k lt
      ∙ back_is ((half / 4 - 1 - k / 4) * 4 + k % 4) (omega arith)
      ∙ ap (λ j. get_or old j 0) (omega arith)

  -- in it
  between : (k : ℕ) → half ≤ k → k < length old - half → get_or (new_front ++ (middle ++ new_back)) k 0 ≡ turned_row old k
  between k from to =
      get_or-append_right new_front (middle ++ new_back) half k 0 front_long from
      ∙ get_or_append_left middle new_back 0 (k - half) (omega arith)
      ∙ middle_is (k - half) (omega arith)
      ∙ ap (λ j. get_or old j 0) (omega arith)

  -- and behind it
  behind : (k : ℕ) → length old - half ≤ k → k < length old → get_or (new_front ++ (middle ++ new_back)) k 0 ≡ turned_row old k
  behind k from to =
      get_or-append_right new_front (middle ++ new_back) half k 0 front_long (omega arith)
      ∙ get_or-append_right middle new_back (length old - half - half) (k - half) 0 middle_long (omega arith)
      ∙ back_new (k - half - (length old - half - half)) (omega arith)
      ∙ front_is ((half / 4 - 1 - (k - half - (length old - half - half)) / 4) * 4 + (k - half - (length old - half - half)) % 4) (omega arith)
      ∙ ap (λ j. get_or old j 0) (omega arith)

  pub row_turned : (k : ℕ) → k < length old → get_or (new_front ++ (middle ++ new_back)) k 0 ≡ turned_row old k
  row_turned k lt = by (cases_lt k half) (cases_lt k (length old - half)) where
    by : (k < half) ⊎ (half ≤ k) → (k < length old - half) ⊎ (length old - half ≤ k) → get_or (new_front ++ (middle ++ new_back)) k 0 ≡ turned_row old k
    by (inl low) _ = before k low
    by (inr from) (inl to) = between k from to
    by (inr from) (inr past) = behind k past lt

-- ---- rows

module _ (w rows y : ℕ) (old xs ys : List ℕ) (below : y + y + 1 < rows)
    (upper : (i : ℕ) → i < w → get_or ys (y * w + i) 0 ≡ get_or xs ((rows - 1 - y) * w + i) 0)
    (lower : (i : ℕ) → i < w → get_or ys ((rows - 1 - y) * w + i) 0 ≡ get_or xs (y * w + i) 0)
    (above : (k : ℕ) → k < y * w → get_or ys k 0 ≡ get_or xs k 0)
    (inside : (k : ℕ) → y * w + w ≤ k → k < (rows - 1 - y) * w → get_or ys k 0 ≡ get_or xs k 0)
    (under : (k : ℕ) → (rows - 1 - y) * w + w ≤ k → get_or ys k 0 ≡ get_or xs k 0)
    (done : (r i : ℕ) → i < w → r < rows → (r < y) ⊎ (rows ≤ r + y) → get_or xs (r * w + i) 0 ≡ get_or old ((rows - 1 - r) * w + i) 0)
    (left : (r i : ℕ) → i < w → y ≤ r → r + y < rows → get_or xs (r * w + i) 0 ≡ get_or old (r * w + i) 0) where
  -- the row that is reached at the lower end
  abbrev other : ℕ
  other = rows - 1 - y

  from_above : (r i : ℕ) → i < w → r < y → get_or ys (r * w + i) 0 ≡ get_or old ((rows - 1 - r) * w + i) 0
  from_above r i small lt =
      let fits : r * w + w ≤ y * w = row_fits r w y w lt (omega arith) in
      above (r * w + i) (omega (arith, fits)) ∙ done r i small (omega arith) (inl lt)

  at_upper : (i : ℕ) → i < w → get_or ys (y * w + i) 0 ≡ get_or old ((rows - 1 - y) * w + i) 0
  at_upper i small = upper i small ∙ left other i small (omega arith) (omega arith)

  at_lower : (i : ℕ) → i < w → get_or ys (other * w + i) 0 ≡ get_or old ((rows - 1 - other) * w + i) 0
  at_lower i small =
      let back : rows - 1 - other ≡ y = omega arith in
      lower i small ∙ left y i small (omega arith) (omega arith) ∙ ap (λ r. get_or old (r * w + i) 0) (sym back)

  from_under : (r i : ℕ) → i < w → r < rows → rows ≤ r + y → get_or ys (r * w + i) 0 ≡ get_or old ((rows - 1 - r) * w + i) 0
  from_under r i small lt le =
      let fits : other * w + w ≤ r * w = row_fits other w r w (omega arith) (omega arith) in
      under (r * w + i) (omega (arith, fits)) ∙ done r i small lt (inr le)

  -- once they are exchanged, one row more is at both ends
  pub rows_done : (r i : ℕ) → i < w → r < rows → (r < y + 1) ⊎ (rows ≤ r + (y + 1)) → get_or ys (r * w + i) 0 ≡ get_or old ((rows - 1 - r) * w + i) 0
  rows_done r i small lt which = by (cases_lt r y) (cases_lt y r) (cases_lt r other) (cases_lt other r) where
    by : (r < y) ⊎ (y ≤ r) → (y < r) ⊎ (r ≤ y) → (r < other) ⊎ (other ≤ r) → (other < r) ⊎ (r ≤ other) → get_or ys (r * w + i) 0 ≡ get_or old ((rows - 1 - r) * w + i) 0
    by (inl first) _ _ _ = from_above r i small first
    by (inr from) (inr to) _ _ = let same : r ≡ y = omega arith in rw same (at_upper i small)
    by (inr from) (inl past) (inl short) _ = absurd (⊎_elim (λ (h : r < y + 1). omega arith) (λ (h : rows ≤ r + (y + 1)). omega arith) which)
    by (inr from) (inl past) (inr long) (inr to) = let same : r ≡ other = omega arith in rw same (at_lower i small)
    by (inr from) (inl past) (inr long) (inl beyond) = from_under r i small lt (omega arith)

  pub rows_left : (r i : ℕ) → i < w → y + 1 ≤ r → r + (y + 1) < rows → get_or ys (r * w + i) 0 ≡ get_or old (r * w + i) 0
  rows_left r i small le lt =
      let first : y * w + w ≤ r * w = row_fits y w r w (omega arith) (omega arith) in
      let last : r * w + w ≤ other * w = row_fits r w other w (omega arith) (omega arith) in
      inside (r * w + i) (omega (arith, first)) (omega (arith, last)) ∙ left r i small (omega arith) (omega arith)

-- once half of them are, all are
pub rows_turned : (w rows half : ℕ) (old ys : List ℕ) → half ≡ rows / 2
    → ((r i : ℕ) → i < w → r < rows → (r < half) ⊎ (rows ≤ r + half) → get_or ys (r * w + i) 0 ≡ get_or old ((rows - 1 - r) * w + i) 0)
    → ((r i : ℕ) → i < w → half ≤ r → r + half < rows → get_or ys (r * w + i) 0 ≡ get_or old (r * w + i) 0)
    → (r i : ℕ) → r < rows → i < w → get_or ys (r * w + i) 0 ≡ get_or old ((rows - 1 - r) * w + i) 0
rows_turned w rows half old ys e done left r i lt small = by (cases_lt r half) (cases_lt (r + half) rows) where
  by : (r < half) ⊎ (half ≤ r) → (r + half < rows) ⊎ (rows ≤ r + half) → get_or ys (r * w + i) 0 ≡ get_or old ((rows - 1 - r) * w + i) 0
  by (inl first) _ = done r i small lt (inl first)
  by (inr from) (inr last) = done r i small lt (inr last)
  by (inr from) (inl middle) =
      let same : rows - 1 - r ≡ r = omega arith in
      left r i small from middle ∙ ap (λ n. get_or old (n * w + i) 0) (sym same)
