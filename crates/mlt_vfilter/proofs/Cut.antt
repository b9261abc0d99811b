-- Rows of which some columns are cleared.
use Rattle.std.proofs.Common.{◌≡◌, ℕ, ◌+◌, ◌-◌, ◌*◌, ◌/◌, ◌%◌, ◌<◌, ◌≤◌, ◌⊎◌, inl, inr, List, ◌++◌, length, get_or, sym, ap, ◌∙◌, arith, if◌then◌else◌}
use Rattle.std.proofs.lemmas.Bool.{cases_lt}
use Rattle.std.proofs.lemmas.List.{get_or_append_left, get_or-append_right}
use Rattle.mlt_tree.specs.Filters.{is_cut}
use Rattle.mlt_vfilter.specs.Places.{cut_columns}
use Rattle.mlt_vfilter.proofs.EachPlace.{cut_there, kept_there}

-- cleared columns on both sides of others
module _ (left right : ℕ) (old front middle back : List ℕ) (whole : length old % 4 ≡ 0) (order : left < length old / 4 - right)
    (front_long : length front ≡ left * 4) (middle_long : length middle ≡ (length old / 4 - right - left) * 4)
    (front_zero : (k : ℕ) → get_or front k 0 ≡ 0) (back_zero : (k : ℕ) → get_or back k 0 ≡ 0)
    (middle_is : (k : ℕ) → k < (length old / 4 - right - left) * 4 → get_or middle k 0 ≡ get_or old (left * 4 + k) 0) where
  pub columns_cut : (k : ℕ) → get_or (front ++ (middle ++ back)) k 0 ≡ cut_columns left right old k
  columns_cut k = by (cases_lt k (left * 4)) (cases_lt k ((length old / 4 - right) * 4)) where
    by : (k < left * 4) ⊎ (left * 4 ≤ k) → (k < (length old / 4 - right) * 4) ⊎ ((length old / 4 - right) * 4 ≤ k) → get_or (front ++ (middle ++ back)) k 0 ≡ cut_columns left right old k
    by (inl low) _ =
        get_or_append_left front (middle ++ back) 0 k (omega arith) ∙ front_zero k ∙ sym (cut_there left right (length old / 4) (k / 4) (get_or old k 0) (inl (omega arith)))
    by (inr from) (inl to) =
        get_or-append_right front (middle ++ back) (left * 4) k 0 front_long from
        ∙ get_or_append_left middle back 0 (k - left * 4) (omega arith)
        ∙ middle_is (k - left * 4) (omega arith)
        ∙ ap (λ j. get_or old j 0) (omega arith)
        ∙ sym (kept_there left right (length old / 4) (k / 4) (get_or old k 0) (omega arith) (omega arith))
    by (inr from) (inr past) =
        get_or-append_right front (middle ++ back) (left * 4) k 0 front_long from
        ∙ get_or-append_right middle back ((length old / 4 - right - left) * 4) (k - left * 4) 0 middle_long (omega arith)
        ∙ back_zero (k - left * 4 - (length old / 4 - right - left) * 4)
        ∙ sym (cut_there left right (length old / 4) (k / 4) (get_or old k 0) (inr (omega arith)))

-- a byte that is cut where no columns are left
pub all_cut : (left right pixels k x : ℕ) → pixels - right ≤ left → 0 ≡ (if is_cut left right pixels (k / 4) then 0 else x)
all_cut left right pixels k x le = sym (by (cases_lt (k / 4) left)) where
  by : (k / 4 < left) ⊎ (left ≤ k / 4) → (if is_cut left right pixels (k / 4) then 0 else x) ≡ 0
  by (inl low) = cut_there left right pixels (k / 4) x (inl low)
  by (inr high) = cut_there left right pixels (k / 4) x (inr (omega arith))
