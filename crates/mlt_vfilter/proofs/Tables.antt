-- Lists that are the values of a function at 0, 1 and so on.
use Rattle.std.proofs.Common.{◌≡◌, ℕ, ◌+◌, ◌*◌, ◌/◌, ◌%◌, ◌<◌, List, length, get_or, refl, sym, ap, ◌∙◌, arith}
use Rattle.std.proofs.lemmas.Nat.{div-add-mod', div_below, mod_below}
use Rattle.std.proofs.lemmas.List.FromFn.{get_or-map-range_with_len, length-map-range_with_len, fill_by_all}
use Rattle.mlt_base.specs.Mixing.{table}

-- value k of a list that is a table
pub tabled : (f : ℕ → ℕ) (n k : ℕ) (xs : List ℕ) → xs ≡ table n f → k < n → get_or xs k 0 ≡ f k
tabled f n k xs e lt = ap (λ l. get_or l k 0) e ∙ get_or-map-range_with_len f 0 n k k 0 lt (omega arith)

-- its length
pub length-tabled : (f : ℕ → ℕ) (n : ℕ) (xs : List ℕ) → xs ≡ table n f → length xs ≡ n
length-tabled f n xs e = ap length e ∙ length-map-range_with_len f 0 n

-- a table of another function of the same values
pub retabled : (f g : ℕ → ℕ) (n : ℕ) (xs : List ℕ) → xs ≡ table n f → ((k : ℕ) → f k ≡ g k) → xs ≡ table n g
retabled f g n xs e same = fill_by_all g xs n 0 (length-tabled f n xs e) (λ k lt. tabled f n k xs e lt ∙ same k)

-- any list is the table of its values
pub own_table : (xs : List ℕ) → xs ≡ table (length xs) (λ k. get_or xs k 0)
own_table xs = fill_by_all (λ k. get_or xs k 0) xs (length xs) 0 refl (λ k lt. refl)

-- a list that is F of its places row by row is the table of F
pub by_rows : (w : ℕ) (F : ℕ → ℕ) (old ys : List ℕ) → 0 < w → length old % w ≡ 0 → length ys ≡ length old
    → ((n i : ℕ) → n < length old / w → i < w → get_or ys (n * w + i) 0 ≡ F (n * w + i)) → ys ≡ table (length old) F
by_rows w F old ys some whole same each = fill_by_all F ys (length old) 0 same (λ k lt. at k lt) where
  at : (k : ℕ) → k < length old → get_or ys k 0 ≡ F k
  at k lt =
      let place : k / w * w + k % w ≡ k = div-add-mod' k w in
      let row : k / w < length old / w = div_below k w (length old / w) some (omega (arith, lt, whole, div-add-mod' (length old) w)) in
      ap (λ j. get_or ys j 0) (sym place) ∙ each (k / w) (k % w) row (mod_below k w some) ∙ ap F place
