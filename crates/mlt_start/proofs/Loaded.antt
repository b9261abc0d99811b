-- The operations of a tree load the sources that its picture needs.
use Rattle.std.proofs.Common.{ℕ, ◌≡◌, ◌≢◌, ◌+◌, ◌-◌, ◌<◌, zero, suc, Bool, true, false, ◌&&◌, ◌||◌, ltb, cond, nat_eq, is_some, List, [], ◌∷◌, ◌++◌, length, map, fold, get_or, set, Option, None, Some, option_map, refl, sym, ap, subst, ◌∙◌, arith, append-nil}
use Rattle.std.proofs.lemmas.Bool.{eqb-true}
use Rattle.std.proofs.lemmas.Bool.Decides.{nat_tests}
use Rattle.std.proofs.lemmas.Grind.{flat_map-append}
use Rattle.std.proofs.lemmas.List.{set-get_or, length-map}
use Rattle.std.proofs.lemmas.List.Folds.{list_any-append}
use Rattle.std.specs.List.{AllByRecursion, list_any, flat_map}
use Rattle.mlt_frame.specs.declared.op.Op.{Op}
use Rattle.mlt_frame.specs.declared.op.Op.TheVariants.{Absent, Filter, Merge, Keep}
use Rattle.mlt_frame.specs.Loads.{load, loads}
use Rattle.mlt_tree.specs.declared.filter.FilterStep.{FilterStep}
use Rattle.mlt_tree.specs.declared.merge.MergeStep.{MergeStep}
use Rattle.mlt_tree.specs.declared.tree.Attached.{Attached}
use Rattle.mlt_tree.specs.declared.tree.Plant.{Plant}
use Rattle.mlt_tree.specs.declared.tree.Plant.TheVariants.{OnTrack, Between}
use Rattle.mlt_tree.specs.Acting.{holds, passed, span_frames, filter_step, merge_step}
use Rattle.mlt_tree.specs.Meaning.{rows, shown, planted, merged_into}
use Rattle.mlt_tree.specs.Medium.{Pictures, makes, hides}
use Rattle.mlt_tree.specs.Needs.{presence, alone, rows_joined, or_none, row_sets, needs, needs_in, needs_of_rows}
use Rattle.mlt_tree.specs.Sizes.{tracks_in}
use Rattle.mlt_tree.specs.Tree.{Tree, Parts, Tracks, Src, Blank, Part, Seq, With, Rows, End, Then, NoTrack, Track, len}
use Rattle.mlt_tree.specs.Units.{IsOnTracks}
use Rattle.mlt_start.specs.Code.{merges_at, acts, goes, has_after, ends_in, highest, row_ops, plant_ops, keep_ops, planted_row, planted_rows, code, code_in, rows_code, filter_ops, with_filters, load_of, or_absent}
use Rattle.mlt_start.proofs.Planted.{from-zero, zero-from, IsPlanted, ArePlantedParts, ArePlantedTracks, IsTop, top-of, get-has, get-moved, has-planted, has-all, length-planted, still-all}
use Rattle.mlt_start.proofs.Stacked.{all_has-made}
use Rattle.mlt_start.proofs.Meant.{all-make, length-rows}

abbrev pub loads_of : Option (List Op) → List ℕ
loads_of None = []
loads_of (Some ops) = loads ops

loads-cond : (t : Bool) (x y : Option (List Op)) (xs ys : List ℕ) → xs ≡ loads_of x → ys ≡ loads_of y → cond t xs ys ≡ loads_of (cond t x y)
loads-cond true x y xs ys first second = first
loads-cond false x y xs ys first second = second

-- filters load nothing
loads-filter : (t : Bool) (depth : ℕ) (step : FilterStep) → loads (cond t (Filter depth step ∷ []) []) ≡ []
loads-filter true depth step = refl
loads-filter false depth step = refl

loads-filters : (n : ℕ) (filters : List Attached) → loads (flat_map (filter_ops n) filters) ≡ []
loads-filters n [] = refl
loads-filters n (f ∷ filters) =
    flat_map-append load (filter_ops n f) (flat_map (filter_ops n) filters)
    ∙ ap (λ ls. ls ++ loads (flat_map (filter_ops n) filters)) (loads-filter (holds f.span n) 0 (filter_step f.spec (passed f.span n)))
    ∙ loads-filters n filters

loads-with_filters : (n : ℕ) (filters : List Attached) (c : Option (List Op)) → loads_of (option_map (with_filters n filters) c) ≡ loads_of c
loads-with_filters n filters None = refl
loads-with_filters n filters (Some ops) =
    flat_map-append load ops (flat_map (filter_ops n) filters) ∙ ap (λ ls. loads ops ++ ls) (loads-filters n filters) ∙ append-nil (loads ops)

-- ---- which rows a row's set has

-- in the set of a row are those that have something and are in that row
abbrev AreIn : List (Option (List ℕ)) → (has : ℕ → Bool) → (into : ℕ → ℕ) → Type 0
AreIn sets has into = (j r : ℕ) → list_any (nat_eq j) (or_none (get_or sets r None)) ≡ (has j && nat_eq (into j) r)

-- at first each is in its own
module _ {A : Type 0} where
  get-alone : (from : ℕ) (rs : List (Option A)) (r k : ℕ) → k ≡ from + r → get_or (alone from rs) r None ≡ option_map (λ _. k ∷ []) (get_or rs r None)
  get-alone from [] r k is = refl
  get-alone from (x ∷ rs) zero k is = ap (λ i. option_map (λ _. i ∷ []) x) (from-zero from k is)
  get-alone from (x ∷ rs) (suc r) k is = get-alone (from + 1) rs r k (omega (arith, is))

  has-one : (row : ℕ) (x : Option A) → is_some (option_map (λ _. row ∷ []) x) ≡ is_some x
  has-one row None = refl
  has-one row (Some x) = refl

  has-alone : (from : ℕ) (rs : List (Option A)) → map is_some (alone from rs) ≡ map is_some rs
  has-alone from [] = refl
  has-alone from (x ∷ rs) =
      ap (λ h. h ∷ map is_some (alone (from + 1) rs)) (has-one from x) ∙ ap (λ has. is_some x ∷ has) (has-alone (from + 1) rs)

  one-in : (t h : Bool) (x : Option A) (j r : ℕ) → nat_eq j r ≡ t → (t ≡ true → h ≡ is_some x) → list_any (nat_eq j) (or_none (option_map (λ _. r ∷ []) x)) ≡ (h && t)
  one-in true h None j r is same = ap (λ s. s && true) (sym (same refl))
  one-in true h (Some x) j r is same = ap (λ s. s || false) is ∙ ap (λ s. s && true) (sym (same refl))
  one-in false true None j r is same = refl
  one-in false true (Some x) j r is same = ap (λ s. s || false) is
  one-in false false None j r is same = refl
  one-in false false (Some x) j r is same = ap (λ s. s || false) is

  alone-in : (rs : List (Option A)) → AreIn (alone 0 rs) (λ j. get_or (map is_some rs) j false) (λ j. j)
  alone-in rs j r =
      ap (λ x. list_any (nat_eq j) (or_none x)) (get-alone 0 rs r r (omega arith))
      ∙ one-in (nat_eq j r) (get_or (map is_some rs) j false) (get_or rs r None) j r refl (λ is. get-has rs j ∙ ap (λ k. is_some (get_or rs k None)) (eqb-true j r is))

-- a filter leaves them
unfiltered : (x : Option (List ℕ)) → option_map (λ s. s) x ≡ x
unfiltered None = refl
unfiltered (Some set) = refl

same-filter : (t : Bool) (sets : List (Option (List ℕ))) (k : ℕ) → cond t (set sets k (option_map (λ s. s) (get_or sets k None))) sets ≡ sets
same-filter true sets k = ap (set sets k) (unfiltered (get_or sets k None)) ∙ set-get_or sets k None
same-filter false sets k = refl

-- a merge joins them
any-joined : (j : ℕ) (under : Option (List ℕ)) (above : List ℕ) → list_any (nat_eq j) (rows_joined under above) ≡ (list_any (nat_eq j) (or_none under) || list_any (nat_eq j) above)
any-joined j None above = refl
any-joined j (Some under) above = list_any-append (nat_eq j) under above

module _ (a b : ℕ) (apart : a ≢ b) where
  none-in_b : (h : Bool) (i : ℕ) → false ≡ (h && nat_eq (cond (nat_eq i b) a i) b)
  none-in_b false i = refl
  none-in_b true i = by (nat_eq i b) refl where
    by : (t : Bool) → nat_eq i b ≡ t → false ≡ nat_eq (cond t a i) b
    by true is = grind (arith, nat_tests)
    by false is = sym is

  both-in_a : (h : Bool) (i : ℕ) → (h && nat_eq i a || h && nat_eq i b) ≡ (h && nat_eq (cond (nat_eq i b) a i) a)
  both-in_a false i = refl
  both-in_a true i = by (nat_eq i b) refl where
    by : (t : Bool) → nat_eq i b ≡ t → (nat_eq i a || t) ≡ nat_eq (cond t a i) a
    by true is = grind (arith, nat_tests)
    by false is = grind (arith, nat_tests)

  others-in : (i r : ℕ) → nat_eq r b ≡ false → nat_eq r a ≡ false → nat_eq i r ≡ nat_eq (cond (nat_eq i b) a i) r
  others-in i r not_b not_a = by (nat_eq i b) refl where
    by : (t : Bool) → nat_eq i b ≡ t → nat_eq i r ≡ nat_eq (cond t a i) r
    by true is = grind (arith, nat_tests)
    by false is = refl

  module _ (sets : List (Option (List ℕ))) (has : ℕ → Bool) (into : ℕ → ℕ) (a_in : a < length sets) (b_in : b < length sets) (are : AreIn sets has into) where
    merged-in : (z : List ℕ) → get_or sets b None ≡ Some z → AreIn (merged_into rows_joined a b sets (Some z)) has (λ j. cond (nat_eq (into j) b) a (into j))
    merged-in z some j r =
        ap (λ x. list_any (nat_eq j) (or_none x)) (get-moved rows_joined a b sets z r a_in b_in)
        ∙ by (nat_eq r b) refl (nat_eq r a) refl where
          by : (to_b : Bool) → nat_eq r b ≡ to_b → (to_a : Bool) → nat_eq r a ≡ to_a
              → list_any (nat_eq j) (or_none (cond to_b None (cond to_a (Some (rows_joined (get_or sets a None) z)) (get_or sets r None)))) ≡ (has j && nat_eq (cond (nat_eq (into j) b) a (into j)) r)
          by true is_b to_a is_a =
              none-in_b (has j) (into j) ∙ ap (λ k. has j && nat_eq (cond (nat_eq (into j) b) a (into j)) k) (sym (eqb-true r b is_b))
          by false is_b true is_a =
              any-joined j (get_or sets a None) z
              ∙ ap (λ t. t || list_any (nat_eq j) z) (are j a)
              ∙ ap (λ t. has j && nat_eq (into j) a || t) (ap (λ x. list_any (nat_eq j) (or_none x)) (sym some) ∙ are j b)
              ∙ both-in_a (has j) (into j)
              ∙ ap (λ k. has j && nat_eq (cond (nat_eq (into j) b) a (into j)) k) (sym (eqb-true r a is_a))
          by false is_b false is_a = are j r ∙ ap (λ t. has j && t) (others-in (into j) r is_b is_a)

    merge-in : (t : Bool) → AreIn (cond t (merged_into rows_joined a b sets (get_or sets b None)) sets) has (λ j. cond ((t && get_or (map is_some sets) b false) && nat_eq (into j) b) a (into j))
    merge-in false = are
    merge-in true = by (get_or sets b None) refl where
      by : (o : Option (List ℕ)) → get_or sets b None ≡ o → AreIn (merged_into rows_joined a b sets o) has (λ j. cond (get_or (map is_some sets) b false && nat_eq (into j) b) a (into j))
      by None is =
          subst (λ h. AreIn sets has (λ j. cond (h && nat_eq (into j) b) a (into j))) (sym (get-has sets b ∙ ap is_some is)) are
      by (Some z) is =
          subst (λ h. AreIn (merged_into rows_joined a b sets (Some z)) has (λ j. cond (h && nat_eq (into j) b) a (into j))) (sym (get-has sets b ∙ ap is_some is)) (merged-in z is)

module _ (n : ℕ) (has : ℕ → Bool) where
  plant-in : (plant : Plant) (sets : List (Option (List ℕ))) (into : ℕ → ℕ) → IsOnTracks (length sets) plant → AreIn sets has into
      → AreIn (planted Pictures row_sets n sets plant) has (λ j. goes Pictures n (map is_some sets) (into j) plant)
  plant-in (OnTrack k spec span) sets into on are =
      subst (λ s. AreIn s has into) (sym (same-filter (holds span n) sets k)) are
  plant-in (Between a b spec span) sets into on are =
      merge-in a b on.2 sets has into on.0 on.1 are (merges_at Pictures n spec span)

  plants-in : (plants : List Plant) (sets : List (Option (List ℕ))) (into : ℕ → ℕ) (count : ℕ) → count ≡ length sets → AllByRecursion (IsOnTracks count) plants → AreIn sets has into
      → AreIn (fold (planted Pictures row_sets n) sets plants) has (λ j. ends_in Pictures n (map is_some sets) plants (into j))
  plants-in [] sets into count is on are = are
  plants-in (plant ∷ plants) sets into count is on are =
      let next = planted Pictures row_sets n sets plant in
      subst (λ h. AreIn (fold (planted Pictures row_sets n) next plants) has (λ j. ends_in Pictures n h plants (goes Pictures n (map is_some sets) (into j) plant))) (has-planted Pictures row_sets n sets plant)
      (plants-in plants next (λ j. goes Pictures n (map is_some sets) (into j) plant) count (is ∙ sym (length-planted Pictures row_sets n sets plant)) on.1 (plant-in plant sets into (subst (λ c. IsOnTracks c plant) is on.0) are))

-- ---- what rows load

-- plants, and a choice of one row, load nothing
loads-plant : (n count : ℕ) (plant : Plant) → loads (plant_ops Pictures n count plant) ≡ []
loads-plant n count (OnTrack k spec span) = loads-filter (holds span n) (count - 1 - k) (filter_step spec (passed span n))
loads-plant n count (Between a b spec span) = loads-merge (merges_at Pictures n spec span) (count - 1 - a) (count - 1 - b) (merge_step spec (passed span n) (span_frames span)) where
  loads-merge : (t : Bool) (i j : ℕ) (step : MergeStep) → loads (cond t (Merge i j step ∷ []) []) ≡ []
  loads-merge true i j step = refl
  loads-merge false i j step = refl

loads-plants : (n count : ℕ) (plants : List Plant) → loads (flat_map (plant_ops Pictures n count) plants) ≡ []
loads-plants n count [] = refl
loads-plants n count (plant ∷ plants) =
    flat_map-append load (plant_ops Pictures n count plant) (flat_map (plant_ops Pictures n count) plants)
    ∙ ap (λ ls. ls ++ loads (flat_map (plant_ops Pictures n count) plants)) (loads-plant n count plant)
    ∙ loads-plants n count plants

loads-keep : (count row : ℕ) → loads (keep_ops count row) ≡ []
loads-keep count row = by (ltb 1 count) where
  by : (t : Bool) → loads (cond t (Keep row count ∷ []) []) ≡ []
  by true = refl
  by false = refl

loads-planted_row : (n : ℕ) (plants : List Plant) (cs : List (Option (List Op))) (row : ℕ) → loads (planted_row Pictures n plants cs row) ≡ loads (row_ops (λ j. nat_eq (ends_in Pictures n (map is_some cs) plants j) row) 0 cs)
loads-planted_row n plants cs row =
    flat_map-append load kept (act ++ keep_ops (length cs) row)
    ∙ ap (λ ls. loads kept ++ ls) (flat_map-append load act (keep_ops (length cs) row) ∙ ap (λ ls. ls ++ loads (keep_ops (length cs) row)) (loads-plants n (length cs) plants) ∙ loads-keep (length cs) row)
    ∙ append-nil (loads kept) where
      kept : List Op
      kept = row_ops (λ j. nat_eq (ends_in Pictures n (map is_some cs) plants j) row) 0 cs

      act : List Op
      act = flat_map (plant_ops Pictures n (length cs)) plants

-- a row that isn't wanted loads nothing
loads-unwanted : (t : Bool) (c : Option (List Op)) → t ≡ false → loads (cond t (or_absent c) (Absent ∷ [])) ≡ []
loads-unwanted true c is = absurd cc
loads-unwanted false c is = refl

loads-wanted : (t : Bool) (c : Option (List Op)) → t ≡ true → loads (cond t (or_absent c) (Absent ∷ [])) ≡ loads_of c
loads-wanted true None is = refl
loads-wanted true (Some ops) is = refl
loads-wanted false c is = absurd cc

-- of rows of which one is wanted, that one's
loads-past : (top from : ℕ) (cs : List (Option (List Op))) → top < from → loads (row_ops (λ j. nat_eq j top) from cs) ≡ []
loads-past top from [] past = refl
loads-past top from (c ∷ cs) past =
    flat_map-append load (cond (nat_eq from top) (or_absent c) (Absent ∷ [])) (row_ops (λ j. nat_eq j top) (from + 1) cs)
    ∙ ap (λ ls. ls ++ loads (row_ops (λ j. nat_eq j top) (from + 1) cs)) (loads-unwanted (nat_eq from top) c (grind (arith, nat_tests)))
    ∙ loads-past top (from + 1) cs (omega (arith, past))

loads-one : (top from : ℕ) (cs : List (Option (List Op))) (k : ℕ) → top ≡ from + k → loads (row_ops (λ j. nat_eq j top) from cs) ≡ loads_of (get_or cs k None)
loads-one top from [] k is = refl
loads-one top from (c ∷ cs) zero is =
    flat_map-append load (cond (nat_eq from top) (or_absent c) (Absent ∷ [])) (row_ops (λ j. nat_eq j top) (from + 1) cs)
    ∙ ap (λ ls. ls ++ loads (row_ops (λ j. nat_eq j top) (from + 1) cs)) (loads-wanted (nat_eq from top) c (grind (arith, nat_tests)))
    ∙ ap (λ ls. loads_of c ++ ls) (loads-past top (from + 1) cs (omega (arith, is)))
    ∙ append-nil (loads_of c)
loads-one top from (c ∷ cs) (suc k) is =
    flat_map-append load (cond (nat_eq from top) (or_absent c) (Absent ∷ [])) (row_ops (λ j. nat_eq j top) (from + 1) cs)
    ∙ ap (λ ls. ls ++ loads (row_ops (λ j. nat_eq j top) (from + 1) cs)) (loads-unwanted (nat_eq from top) c (grind (arith, nat_tests)))
    ∙ loads-one top (from + 1) cs k (omega (arith, is))

-- ---- what rows need

-- none where the set has none
needs-none : (row : ℕ) (tracks : Tracks) (n : ℕ) → needs_of_rows [] row tracks n ≡ []
needs-none row NoTrack n = refl
needs-none row (Track t hide tracks) n = needs-none (row + 1) tracks n

-- a row that is in the set has something and is wanted
needs-row : (is w : Bool) (c : Option (List Op)) (own : List ℕ) → is ≡ (is_some c && w) → ((ops : List Op) → c ≡ Some ops → own ≡ loads ops) → cond is own [] ≡ loads (cond w (or_absent c) (Absent ∷ []))
needs-row is true None own in_set made = ap (λ t. cond t own []) in_set
needs-row is false None own in_set made = ap (λ t. cond t own []) in_set
needs-row is true (Some ops) own in_set made = ap (λ t. cond t own []) in_set ∙ made ops refl
needs-row is false (Some ops) own in_set made = ap (λ t. cond t own []) in_set

-- a row that has something isn't hidden, and needs what its track needs
of_track : (hidden : Bool) (c : Option (List Op)) (own : List ℕ) → own ≡ loads_of c → (ops : List Op) → cond hidden None c ≡ Some ops → own ≡ loads ops
of_track true c own h ops is = absurd cc
of_track false c own h ops is = h ∙ ap loads_of is

-- the rows in the set, from a number on, are those that have something and are wanted
abbrev IsOf : List ℕ → (wanted : ℕ → Bool) → (from : ℕ) → List (Option (List Op)) → Type 0
IsOf rows_in wanted from cs =
    (i k : ℕ) → k ≡ from + i → list_any (nat_eq k) rows_in ≡ (get_or (map is_some cs) i false && wanted k)

-- where the sources of each set of rows are given, those of the shown ones
module _ (tracks : Tracks) (plants : List Plant) (n : ℕ) (is : ArePlantedTracks tracks) (on : AllByRecursion (IsOnTracks (tracks_in tracks)) plants)
    (given : (rows_in : List ℕ) (wanted : ℕ → Bool) → IsOf rows_in wanted 0 (rows_code Pictures tracks n) → needs_of_rows rows_in 0 tracks n ≡ loads (row_ops wanted 0 (rows_code Pictures tracks n))) where
  abbrev cs : List (Option (List Op))
  cs = rows_code Pictures tracks n

  abbrev sets : List (Option (List ℕ))
  sets = alone 0 (rows Pictures presence tracks n)

  abbrev there : ℕ → Bool
  there j = get_or (map is_some cs) j false

  same : map is_some (rows Pictures presence tracks n) ≡ map is_some cs
  same = sym (all_has-made presence cs (rows Pictures presence tracks n) (all-make Pictures presence tracks is n))

  has : map is_some sets ≡ map is_some cs
  has = has-alone 0 (rows Pictures presence tracks n) ∙ same

  long : tracks_in tracks ≡ length sets
  long = sym (length-rows Pictures tracks n) ∙ sym (length-map cs is_some) ∙ ap length (sym has) ∙ length-map sets is_some

  first : AreIn sets there (λ j. j)
  first = subst (λ hs. AreIn sets (λ j. get_or hs j false) (λ j. j)) same (alone-in (rows Pictures presence tracks n))

  -- where plants act
  needs-planted : needs_of_rows (or_none (shown (fold (planted Pictures row_sets n) sets plants))) 0 tracks n ≡ loads_of (planted_rows Pictures n plants cs)
  needs-planted = by (highest (map is_some after)) refl (top-of after) where
    after : List (Option (List ℕ))
    after = fold (planted Pictures row_sets n) sets plants

    ends : fold (has_after Pictures n) (map is_some cs) plants ≡ map is_some after
    ends = ap (λ h. fold (has_after Pictures n) h plants) (sym has) ∙ sym (has-all Pictures row_sets n sets plants)

    by : (top : Option ℕ) → highest (map is_some after) ≡ top → IsTop after top → needs_of_rows (or_none (shown after)) 0 tracks n ≡ loads_of (planted_rows Pictures n plants cs)
    by None is none =
        ap (λ x. needs_of_rows (or_none x) 0 tracks n) none
        ∙ needs-none 0 tracks n
        ∙ ap (λ t. loads_of (option_map (planted_row Pictures n plants cs) t)) (sym (ap highest ends ∙ is))
    by (Some k) is (set, inside, shows, at) =
        ap (λ x. needs_of_rows (or_none x) 0 tracks n) shows
        ∙ given set (λ j. nat_eq (ends_in Pictures n (map is_some cs) plants j) k) of
        ∙ sym (loads-planted_row n plants cs k)
        ∙ ap (λ t. loads_of (option_map (planted_row Pictures n plants cs) t)) (sym (ap highest ends ∙ is)) where
          of : IsOf set (λ j. nat_eq (ends_in Pictures n (map is_some cs) plants j) k) 0 cs
          of i j e =
              ap (λ x. list_any (nat_eq j) (or_none x)) (sym at)
              ∙ plants-in n there plants sets (λ j. j) (tracks_in tracks) long on first j k
              ∙ ap (λ h. there j && nat_eq (ends_in Pictures n h plants j) k) has
              ∙ ap (λ l. there l && nat_eq (ends_in Pictures n (map is_some cs) plants j) k) (sym (zero-from i j e))

  -- where none acts
  needs-shown : needs_of_rows (or_none (shown sets)) 0 tracks n ≡ loads_of (shown cs)
  needs-shown = by (highest (map is_some sets)) refl (top-of sets) where
    by : (top : Option ℕ) → highest (map is_some sets) ≡ top → IsTop sets top → needs_of_rows (or_none (shown sets)) 0 tracks n ≡ loads_of (shown cs)
    by None is none =
        ap (λ x. needs_of_rows (or_none x) 0 tracks n) none
        ∙ needs-none 0 tracks n
        ∙ ap loads_of (sym (subst (IsTop cs) (ap highest (sym has) ∙ is) (top-of cs)))
    by (Some k) is (set, inside, shows, at) =
        let (ops, c_inside, c_shows, c_at) = subst (IsTop cs) (ap highest (sym has) ∙ is) (top-of cs) in
        ap (λ x. needs_of_rows (or_none x) 0 tracks n) shows
        ∙ given set (λ j. nat_eq j k) of
        ∙ loads-one k 0 cs k (omega arith)
        ∙ ap loads_of (c_at ∙ sym c_shows) where
          of : IsOf set (λ j. nat_eq j k) 0 cs
          of i j e =
              ap (λ x. list_any (nat_eq j) (or_none x)) (sym at)
              ∙ first j k
              ∙ ap (λ l. there l && nat_eq j k) (sym (zero-from i j e))

  needs-by_plants : needs_of_rows (or_none (shown (fold (planted Pictures row_sets n) sets plants))) 0 tracks n ≡ loads_of (cond (list_any (acts Pictures n) plants) (planted_rows Pictures n plants cs) (shown cs))
  needs-by_plants = by (list_any (acts Pictures n) plants) refl where
    by : (t : Bool) → list_any (acts Pictures n) plants ≡ t → needs_of_rows (or_none (shown (fold (planted Pictures row_sets n) sets plants))) 0 tracks n ≡ loads_of (cond t (planted_rows Pictures n plants cs) (shown cs))
    by true is = needs-planted
    by false is = ap (λ x. needs_of_rows (or_none (shown x)) 0 tracks n) (still-all Pictures row_sets n plants sets is) ∙ needs-shown

mutual
  -- the operations load what is needed, in the same order
  pub needs-code : (t : Tree) → IsPlanted t → (n : ℕ) → needs t n ≡ loads_of (code Pictures t n)
  needs-code (Src source kind frames) is n =
      loads-cond (makes Pictures kind && ltb n frames) (Some (load_of source n ∷ [])) None (source ∷ []) [] refl refl
  needs-code (Blank frames) is n = refl
  needs-code (Part t first last) is n =
      loads-cond (ltb n (last + 1 - first)) (code Pictures t (first + n)) None (needs t (first + n)) [] (needs-code t is (first + n)) refl
  needs-code (Seq parts) is n = needs_in-code parts is n
  needs-code (With t filters) is n = needs-code t is n ∙ sym (loads-with_filters n filters (code Pictures t n))
  needs-code (Rows tracks plants) is n =
      needs-by_plants tracks plants n is.1 is.2 (λ rows_in wanted of. needs_rows-code rows_in wanted 0 tracks is.1 n of)

  needs_in-code : (parts : Parts) → ArePlantedParts parts → (n : ℕ) → needs_in parts n ≡ loads_of (code_in Pictures parts n)
  needs_in-code End is n = refl
  needs_in-code (Then t parts) is n =
      loads-cond (ltb n (len t)) (code Pictures t n) (code_in Pictures parts (n - len t)) (needs t n) (needs_in parts (n - len t)) (needs-code t is.0 n) (needs_in-code parts is.1 (n - len t))

  needs_rows-code : (rows_in : List ℕ) (wanted : ℕ → Bool) (from : ℕ) (tracks : Tracks) → ArePlantedTracks tracks → (n : ℕ) → IsOf rows_in wanted from (rows_code Pictures tracks n)
      → needs_of_rows rows_in from tracks n ≡ loads (row_ops wanted from (rows_code Pictures tracks n))
  needs_rows-code rows_in wanted from NoTrack is n of = refl
  needs_rows-code rows_in wanted from (Track t hide tracks) is n of =
      let c : Option (List Op) = cond (hides Pictures hide) None (code Pictures t n) in
      ap (λ ls. ls ++ needs_of_rows rows_in (from + 1) tracks n) (needs-row (list_any (nat_eq from) rows_in) (wanted from) c (needs t n) (of 0 from (omega arith)) (of_track (hides Pictures hide) (code Pictures t n) (needs t n) (needs-code t is.0 n)))
      ∙ ap (λ ls. loads (cond (wanted from) (or_absent c) (Absent ∷ [])) ++ ls) (needs_rows-code rows_in wanted (from + 1) tracks is.1 n (λ i k e. of (suc i) k (omega (arith, e))))
      ∙ sym (flat_map-append load (cond (wanted from) (or_absent c) (Absent ∷ [])) (row_ops wanted (from + 1) (rows_code Pictures tracks n)))

loads-or_absent : (c : Option (List Op)) → loads (or_absent c) ≡ loads_of c
loads-or_absent None = refl
loads-or_absent (Some ops) = refl

pub loads-code : (t : Tree) → IsPlanted t → (n : ℕ) → loads (or_absent (code Pictures t n)) ≡ needs t n
loads-code t is n = loads-or_absent (code Pictures t n) ∙ sym (needs-code t is n)
