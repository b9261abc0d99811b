-- Rows that are kept, and what is mixed of them.
use Rattle.std.proofs.Common.{◌≡◌, ℕ, ◌*◌, ◌/◌, ◌%◌, ◌<◌, ◌≤◌, ◌==◌, Bool, true, false, if◌then◌else◌, List, ◌++◌, length, get_or, take, Some, sym, ap, subst, ◌∙◌, arith, length-take}
use Rattle.std.proofs.lemmas.List.{get_or-take, get_or_append_left}
use Rattle.std.proofs.lemmas.List.FromFn.{get_or-map-range_with_len, length-map-range_with_len}
use Rattle.mlt_base.specs.Mixing.{table}
use Rattle.mlt_image.specs.Kept.{across_at, kept_row, IsRow, AreRows}
use Rattle.mlt_image.specs.declared.rows.Row.{Row}
use Rattle.mlt_image.specs.declared.rows.Rows.{Rows}
use Rattle.mlt_image.proofs.Mixes.{weighed_most}

-- value k of a table
pub table_at : (f : ℕ → ℕ) (n k : ℕ) → k < n → get_or (table n f) k 0 ≡ f k
table_at f n k lt = get_or-map-range_with_len f 0 n k k 0 lt (omega arith)

-- value k of a list that is a table
pub tabled : (f : ℕ → ℕ) (n k : ℕ) (xs : List ℕ) → xs ≡ table n f → k < n → get_or xs k 0 ≡ f k
tabled f n k xs e lt = ap (λ l. get_or l k 0) e ∙ table_at f n k lt

-- the two values of an option are one
same_some : (y z : ℕ) → Some y ≡ Some z → y ≡ z
same_some y z e = cc

-- a row that was mixed across in front of old values is kept
pub is_row : (pixels : List ℕ) (width : ℕ) (places : List ℕ) (y : ℕ) (mixed rest : List ℕ) → mixed ≡ table (length places * 4) (across_at pixels width places y)
    → IsRow pixels width places (record { y = Some y; values = mixed ++ rest })
is_row pixels width places y mixed rest e = record { each = λ z same k lt. at z (same_some y z same) k lt } where
  long : length mixed ≡ length places * 4
  long = ap length e ∙ length-map-range_with_len (across_at pixels width places y) 0 (length places * 4)

  at : (z : ℕ) → y ≡ z → (k : ℕ) → k < length places * 4 → get_or (mixed ++ rest) k 0 ≡ across_at pixels width places z k
  at z same k lt =
      get_or_append_left mixed rest 0 k (omega (arith, long))
      ∙ tabled (across_at pixels width places y) (length places * 4) k mixed e lt
      ∙ ap (λ i. across_at pixels width places i k) same

-- the row of any number, of two that are as they should be
pub row_is : (pixels : List ℕ) (width : ℕ) (places : List ℕ) (rows : Rows) (y : ℕ) → AreRows pixels width places rows → IsRow pixels width places (kept_row rows y)
row_is pixels width places rows y are = by (y % 2 == 0) where
  by : (even : Bool) → IsRow pixels width places (if even then rows.even else rows.odd)
  by true = are.even
  by false = are.odd

-- value k of such a row that has its number
pub row_at : (pixels : List ℕ) (width : ℕ) (places : List ℕ) (rows : Rows) (row : Row) (y k : ℕ) → AreRows pixels width places rows → row ≡ kept_row rows y → (kept_row rows y).y ≡ Some y
    → k < length places * 4 → get_or (take (length places * 4) row.values) k 0 ≡ across_at pixels width places y k
row_at pixels width places rows row y k are is named lt =
    get_or-take (length places * 4) row.values k 0 lt ∙ ap (λ (r : Row). get_or r.values k 0) is ∙ (row_is pixels width places rows y are).each y named k lt

-- it is at most 255 in 65536ths
pub row_most : (pixels : List ℕ) (width : ℕ) (places : List ℕ) (rows : Rows) (row : Row) (y : ℕ) → AreRows pixels width places rows → row ≡ kept_row rows y → (kept_row rows y).y ≡ Some y
    → ((i : ℕ) → get_or pixels i 0 ≤ 255) → (k : ℕ) → k < length (take (length places * 4) row.values) → get_or (take (length places * 4) row.values) k 0 ≤ 16711680
row_most pixels width places rows row y are is named small k lt =
    let within : k < length places * 4 = omega (arith, length-take (length places * 4) row.values) in
    let place = get_or places (k / 4) 0 in
    subst (λ v. v ≤ 16711680) (sym (row_at pixels width places rows row y k are is named within)) (weighed_most (place % 65536) _ _ (omega arith) (small _) (small _))
