-- What is found by the ends is what a walk along the numbers finds.
use Rattle.std.proofs.Common.{◌≡◌, ℕ, suc, ◌-◌, ◌<◌, ◌≤◌, List, ◌∷◌, length, get_or, sum, Some, None, refl, sym, ap, ◌∙◌, arith}
use Rattle.std.proofs.lemmas.List.{take_all}
use Rattle.mlt_base.specs.Walk.{walk}
use Rattle.mlt_index.specs.Starts.{ends_of}
use Rattle.mlt_index.proofs.Replaced.{start_is}
use Rattle.mlt_index.proofs.Walked.{walk-past, walk-within}

module _ (ends ns read : List ℕ) (at index : ℕ) (are : ends ≡ ends_of 0 ns) (same : read ≡ ends) (reached : get_or (0 ∷ read) index 0 ≤ at) where
  -- no number
  pub none_found : index ≡ length ns → None ≡ walk ns at
  none_found all =
      let start = start_is ends ns read index (get_or (0 ∷ read) index 0) are same (omega arith) refl in
      sym (walk-past ns at (omega (arith, ap sum (take_all index ns (omega arith)))))

  -- one number
  pub one_found : (again : List ℕ) (start : ℕ) → index < length ns → at < get_or read index 0 → again ≡ ends → start ≡ get_or (0 ∷ again) index 0 → Some (index, at - start) ≡ walk ns at
  one_found again start inside before unchanged is =
      let first = start_is ends ns read index (get_or (0 ∷ read) index 0) are same (omega arith) refl in
      let next = start_is ends ns read (suc index) (get_or (0 ∷ read) (suc index) 0) are same (omega arith) refl in
      let place = start_is ends ns again index start are unchanged (omega arith) is in
      ap (λ s. Some (index, at - s)) place ∙ sym (walk-within ns index at inside (omega arith) (omega arith))
