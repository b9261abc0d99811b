-- Rows as registers, the lowest of them deepest, and what the operations of plants make of them.
use Rattle.std.proofs.Common.{ℕ, ◌≡◌, ◌+◌, ◌-◌, ◌<◌, ◌≤◌, zero, suc, Bool, true, false, cond, ltb, ltb-false, nat_eq, is_some, List, [], ◌∷◌, ◌++◌, length, map, fold, get_or, set, drop, Option, None, Some, option_map, refl, sym, ap, subst, ◌∙◌, arith}
use Rattle.std.proofs.lemmas.Bool.{eq-eqb}
use Rattle.std.proofs.lemmas.Grind.{fold-append}
use Rattle.std.proofs.lemmas.List.{length-set}
use Rattle.std.specs.List.{AllByRecursion, flat_map}
use Rattle.mlt_frame.specs.declared.op.Op.{Op}
use Rattle.mlt_frame.specs.declared.op.Op.TheVariants.{Absent, Filter, Merge, Keep}
use Rattle.mlt_frame.specs.Registers.{apply, regs}
use Rattle.mlt_tree.specs.declared.filter.FilterStep.{FilterStep}
use Rattle.mlt_tree.specs.declared.merge.MergeStep.{MergeStep}
use Rattle.mlt_tree.specs.declared.tree.Plant.{Plant}
use Rattle.mlt_tree.specs.declared.tree.Plant.TheVariants.{OnTrack, Between}
use Rattle.mlt_tree.specs.Acting.{holds, passed, span_frames, filter_step, merge_step}
use Rattle.mlt_tree.specs.Meaning.{Matter, shown, planted, merged_into}
use Rattle.mlt_tree.specs.Medium.{Medium}
use Rattle.mlt_tree.specs.Units.{IsOnTracks}
use Rattle.mlt_start.specs.Code.{merges_at, ends_in, highest, has_after, row_ops, plant_ops, keep_ops, planted_row, planted_rows, or_absent}
use Rattle.mlt_start.proofs.Both.{Both}
use Rattle.mlt_start.proofs.Planted.{from-zero, zero-from, cond-both, IsTop, top-of, AreKept, kept-all, has-all, length-planted}

-- operations add a register with this
abbrev pub Makes : {A : Type 0} → Matter A → List Op → A → Type 0
Makes {A} m ops x = (rest : List (Option A)) → regs m rest ops ≡ Some x ∷ rest

-- the operations of each row make what the row has
abbrev pub AllMake : {A : Type 0} → Matter A → List (Option (List Op)) → List (Option A) → Type 0
AllMake m [] [] = Unit {0}
AllMake m [] (row ∷ rows) = ⊥
AllMake m (c ∷ cs) [] = ⊥
AllMake m (c ∷ cs) (row ∷ rows) = Both (Makes m) c row × AllMake m cs rows

-- rows, pushed on other registers
abbrev onto : {A : Type 0} → List (Option A) → List (Option A) → List (Option A)
onto [] rest = rest
onto (row ∷ rows) rest = onto rows (row ∷ rest)

module _ {A : Type 0} where
  get-below : (rows rest : List (Option A)) (k i : ℕ) → i ≡ length rows + k → get_or (onto rows rest) i None ≡ get_or rest k None
  get-below [] rest k i is = ap (λ j. get_or rest j None) (sym (zero-from k i is))
  get-below (row ∷ rows) rest k i is = get-below rows (row ∷ rest) (suc k) i (omega (arith, is))

  get-row : (rows rest : List (Option A)) (k i : ℕ) → k + i + 1 ≡ length rows → get_or (onto rows rest) i None ≡ get_or rows k None
  get-row [] rest k i is = absurd (omega (arith, is))
  get-row (row ∷ rows) rest zero i is = get-below rows (row ∷ rest) 0 i (omega (arith, is))
  get-row (row ∷ rows) rest (suc k) i is = get-row rows (row ∷ rest) k i (omega (arith, is))

  set-below : (rows rest : List (Option A)) (k i : ℕ) (x : Option A) → i ≡ length rows + k → set (onto rows rest) i x ≡ onto rows (set rest k x)
  set-below [] rest k i x is = ap (λ j. set rest j x) (sym (zero-from k i is))
  set-below (row ∷ rows) rest k i x is = set-below rows (row ∷ rest) (suc k) i x (omega (arith, is))

  set-row : (rows rest : List (Option A)) (k i : ℕ) (x : Option A) → k + i + 1 ≡ length rows → set (onto rows rest) i x ≡ onto (set rows k x) rest
  set-row [] rest k i x is = absurd (omega (arith, is))
  set-row (row ∷ rows) rest zero i x is = set-below rows (row ∷ rest) 0 i x (omega (arith, is))
  set-row (row ∷ rows) rest (suc k) i x is = set-row rows (row ∷ rest) k i x (omega (arith, is))

  drop-below : (rows rest : List (Option A)) (k i : ℕ) → i ≡ length rows + k → drop i (onto rows rest) ≡ drop k rest
  drop-below [] rest k i is = ap (λ j. drop j rest) (sym (zero-from k i is))
  drop-below (row ∷ rows) rest k i is = drop-below rows (row ∷ rest) (suc k) i (omega (arith, is))

-- ---- rows

-- the rows that are wanted, from a number on
abbrev kept : {A : Type 0} → (ℕ → Bool) → ℕ → List (Option A) → List (Option A)
kept wanted from [] = []
kept wanted from (row ∷ rows) = cond (wanted from) row None ∷ kept wanted (from + 1) rows

module _ {A : Type 0} (m : Matter A) where
  row-made : (t : Bool) (c : Option (List Op)) (row : Option A) (rest : List (Option A)) → Both (Makes m) c row → regs m rest (cond t (or_absent c) (Absent ∷ [])) ≡ cond t row None ∷ rest
  row-made false c row rest made = refl
  row-made true None None rest made = refl
  row-made true None (Some x) rest made = absurd made
  row-made true (Some ops) None rest made = absurd made
  row-made true (Some ops) (Some x) rest made = made rest

  rows-made : (wanted : ℕ → Bool) (from : ℕ) (cs : List (Option (List Op))) (rows rest : List (Option A)) → AllMake m cs rows → regs m rest (row_ops wanted from cs) ≡ onto (kept wanted from rows) rest
  rows-made wanted from [] [] rest made = refl
  rows-made wanted from [] (row ∷ rows) rest made = absurd made
  rows-made wanted from (c ∷ cs) [] rest made = absurd made
  rows-made wanted from (c ∷ cs) (row ∷ rows) rest made =
      fold-append (apply m) rest (cond (wanted from) (or_absent c) (Absent ∷ [])) (row_ops wanted (from + 1) cs)
      ∙ ap (λ rs. regs m rs (row_ops wanted (from + 1) cs)) (row-made (wanted from) c row rest made.0)
      ∙ rows-made wanted (from + 1) cs rows (cond (wanted from) row None ∷ rest) made.1

  pub length-made : (cs : List (Option (List Op))) (rows : List (Option A)) → AllMake m cs rows → length cs ≡ length rows
  length-made [] [] made = refl
  length-made [] (row ∷ rows) made = absurd made
  length-made (c ∷ cs) [] made = absurd made
  length-made (c ∷ cs) (row ∷ rows) made = ap suc (length-made cs rows made.1)

  has-made : (c : Option (List Op)) (row : Option A) → Both (Makes m) c row → is_some c ≡ is_some row
  has-made None None made = refl
  has-made None (Some x) made = absurd made
  has-made (Some ops) None made = absurd made
  has-made (Some ops) (Some x) made = refl

  pub all_has-made : (cs : List (Option (List Op))) (rows : List (Option A)) → AllMake m cs rows → map is_some cs ≡ map is_some rows
  all_has-made [] [] made = refl
  all_has-made [] (row ∷ rows) made = absurd made
  all_has-made (c ∷ cs) [] made = absurd made
  all_has-made (c ∷ cs) (row ∷ rows) made =
      ap (λ has. has ∷ map is_some cs) (has-made c row made.0) ∙ ap (λ has. is_some row ∷ has) (all_has-made cs rows made.1)

module _ {A : Type 0} (wanted : ℕ → Bool) where
  length-kept : (from : ℕ) (rows : List (Option A)) → length (kept wanted from rows) ≡ length rows
  length-kept from [] = refl
  length-kept from (row ∷ rows) = ap suc (length-kept (from + 1) rows)

  get-kept : (from : ℕ) (rows : List (Option A)) (j k : ℕ) → k ≡ from + j → get_or (kept wanted from rows) j None ≡ cond (wanted k) (get_or rows j None) None
  get-kept from [] j k is = sym (cond-both (wanted k) None)
  get-kept from (row ∷ rows) zero k is = ap (λ i. cond (wanted i) row None) (from-zero from k is)
  get-kept from (row ∷ rows) (suc j) k is = get-kept (from + 1) rows j k (omega (arith, is))

-- ---- plants

module _ {A : Type 0} (v : Medium) (m : Matter A) (n : ℕ) where
  filter-made : (t : Bool) (step : FilterStep) (rows rest : List (Option A)) (k i : ℕ) → k + i + 1 ≡ length rows
      → regs m (onto rows rest) (cond t (Filter i step ∷ []) []) ≡ onto (cond t (set rows k (option_map (m.filter step) (get_or rows k None))) rows) rest
  filter-made false step rows rest k i is = refl
  filter-made true step rows rest k i is =
      ap (λ x. set (onto rows rest) i (option_map (m.filter step) x)) (get-row rows rest k i is)
      ∙ set-row rows rest k i (option_map (m.filter step) (get_or rows k None)) is

  moved-made : (g : Option A → A → A) (rows rest : List (Option A)) (a b i j : ℕ) (o : Option A) → a + i + 1 ≡ length rows → b + j + 1 ≡ length rows
      → merged_into g i j (onto rows rest) o ≡ onto (merged_into g a b rows o) rest
  moved-made g rows rest a b i j None is_a is_b = refl
  moved-made g rows rest a b i j (Some z) is_a is_b =
      ap (λ x. set (set (onto rows rest) i (Some (g x z))) j None) (get-row rows rest a i is_a)
      ∙ ap (λ rs. set rs j None) (set-row rows rest a i (Some (g (get_or rows a None) z)) is_a)
      ∙ set-row (set rows a (Some (g (get_or rows a None) z))) rest b j None (is_b ∙ sym (length-set rows a _))

  merge-made : (t : Bool) (step : MergeStep) (rows rest : List (Option A)) (a b i j : ℕ) → a + i + 1 ≡ length rows → b + j + 1 ≡ length rows
      → regs m (onto rows rest) (cond t (Merge i j step ∷ []) []) ≡ onto (cond t (merged_into (m.merge step) a b rows (get_or rows b None)) rows) rest
  merge-made false step rows rest a b i j is_a is_b = refl
  merge-made true step rows rest a b i j is_a is_b =
      ap (merged_into (m.merge step) i j (onto rows rest)) (get-row rows rest b j is_b)
      ∙ moved-made (m.merge step) rows rest a b i j (get_or rows b None) is_a is_b

  plant-made : (plant : Plant) (rows rest : List (Option A)) (count : ℕ) → count ≡ length rows → IsOnTracks count plant → regs m (onto rows rest) (plant_ops v n count plant) ≡ onto (planted v m n rows plant) rest
  plant-made (OnTrack k spec span) rows rest count is on =
      filter-made (holds span n) (filter_step spec (passed span n)) rows rest k (count - 1 - k) (omega (arith, is, on))
  plant-made (Between a b spec span) rows rest count is on =
      merge-made (merges_at v n spec span) (merge_step spec (passed span n) (span_frames span)) rows rest a b (count - 1 - a) (count - 1 - b) (omega (arith, is, on.0)) (omega (arith, is, on.1))

  plants-made : (plants : List Plant) (rows rest : List (Option A)) (count : ℕ) → count ≡ length rows → AllByRecursion (IsOnTracks count) plants
      → regs m (onto rows rest) (flat_map (plant_ops v n count) plants) ≡ onto (fold (planted v m n) rows plants) rest
  plants-made [] rows rest count is on = refl
  plants-made (plant ∷ plants) rows rest count is on =
      fold-append (apply m) (onto rows rest) (plant_ops v n count plant) (flat_map (plant_ops v n count) plants)
      ∙ ap (λ rs. regs m rs (flat_map (plant_ops v n count) plants)) (plant-made plant rows rest count is on.0)
      ∙ plants-made plants (planted v m n rows plant) rest count (is ∙ sym (length-planted v m n rows plant)) on.1

  pub length-all : (plants : List Plant) (rows : List (Option A)) → length (fold (planted v m n) rows plants) ≡ length rows
  length-all [] rows = refl
  length-all (plant ∷ plants) rows = length-all plants (planted v m n rows plant) ∙ length-planted v m n rows plant

  -- ---- one row stays

  alone : (rows rest : List (Option A)) (row : ℕ) → length rows ≤ 1 → row < length rows → onto rows rest ≡ get_or rows row None ∷ rest
  alone [] rest row few inside = absurd (omega (arith, inside))
  alone (r ∷ []) rest zero few inside = refl
  alone (r ∷ []) rest (suc row) few inside = absurd (omega (arith, inside))
  alone (r ∷ s ∷ rows) rest row few inside = absurd (omega (arith, few))

  one-kept : (rows rest : List (Option A)) (count row : ℕ) → count ≡ length rows → row < count → regs m (onto rows rest) (keep_ops count row) ≡ get_or rows row None ∷ rest
  one-kept rows rest count row is inside = by (ltb 1 count) refl where
    by : (t : Bool) → ltb 1 count ≡ t → regs m (onto rows rest) (cond t (Keep row count ∷ []) []) ≡ get_or rows row None ∷ rest
    by true test =
        ap (λ x. x ∷ drop count (onto rows rest)) (get-row rows rest row (count - 1 - row) (omega (arith, is, inside)))
        ∙ ap (λ rs. get_or rows row None ∷ rs) (drop-below rows rest 0 count (omega (arith, is)))
    by false test =
        alone rows rest row (omega (arith, is, ltb-false 1 count test)) (subst (λ c. row < c) is inside)

  -- the operations of rows with plants make what they show
  pub planted-make : (cs : List (Option (List Op))) (rows : List (Option A)) (plants : List Plant) → AllMake m cs rows → AllByRecursion (IsOnTracks (length cs)) plants
      → Both (Makes m) (planted_rows v n plants cs) (shown (fold (planted v m n) rows plants))
  planted-make cs rows plants made on = by (highest (map is_some after)) refl (top-of after) where
    after : List (Option A)
    after = fold (planted v m n) rows plants

    long : length cs ≡ length rows
    long = length-made m cs rows made

    same : fold (has_after v n) (map is_some cs) plants ≡ map is_some after
    same = ap (λ has. fold (has_after v n) has plants) (all_has-made m cs rows made) ∙ sym (has-all v m n rows plants)

    by : (top : Option ℕ) → highest (map is_some after) ≡ top → IsTop after top → Both (Makes m) (planted_rows v n plants cs) (shown after)
    by None is none =
        subst (λ t. Both (Makes m) (option_map (planted_row v n plants cs) t) (shown after)) (sym (ap highest same ∙ is)) (subst (λ x. Both (Makes m) None x) (sym none) tt)
    by (Some k) is (x, inside, shows, at) =
        subst (λ t. Both (Makes m) (option_map (planted_row v n plants cs) t) (shown after)) (sym (ap highest same ∙ is)) (subst (λ o. Both (Makes m) (Some (planted_row v n plants cs k)) o) (sym shows) one) where
          wanted : ℕ → Bool
          wanted j = nat_eq (ends_in v n (map is_some cs) plants j) k

          before : List (Option A)
          before = kept wanted 0 rows

          act : List Op
          act = flat_map (plant_ops v n (length cs)) plants

          keep : List Op
          keep = keep_ops (length cs) k

          are : AreKept (λ j. nat_eq (ends_in v n (map is_some rows) plants j) k) rows before
          are = record {
            long = length-kept wanted 0 rows;
            each = λ j.
                get-kept wanted 0 rows j j (omega arith)
                ∙ ap (λ has. cond (nat_eq (ends_in v n has plants j) k) (get_or rows j None) None) (all_has-made m cs rows made);
          }

          it : get_or (fold (planted v m n) before plants) k None ≡ Some x
          it =
              (kept-all v m n plants (λ j. nat_eq j k) rows before (length cs) long on are).each k
              ∙ ap (λ t. cond t (get_or after k None) None) (eq-eqb k k refl)
              ∙ at

          one : Makes m (planted_row v n plants cs k) x
          one rest =
              fold-append (apply m) rest (row_ops wanted 0 cs) (act ++ keep)
              ∙ ap (λ rs. regs m rs (act ++ keep)) (rows-made m wanted 0 cs rows rest made)
              ∙ fold-append (apply m) (onto before rest) act keep
              ∙ ap (λ rs. regs m rs keep) (plants-made plants before rest (length cs) (long ∙ sym (length-kept wanted 0 rows)) on)
              ∙ one-kept (fold (planted v m n) before plants) rest (length cs) k (long ∙ sym (length-kept wanted 0 rows) ∙ sym (length-all plants before)) (omega (arith, inside, long, length-all plants rows))
              ∙ ap (λ o. o ∷ rest) it
