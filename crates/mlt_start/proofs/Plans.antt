-- Rows that are planned, and what is pushed of them.
use Rattle.std.proofs.Common.{ℕ, ◌≡◌, ◌+◌, ◌-◌, ◌<◌, ◌≤◌, zero, suc, Bool, true, false, cond, nat_eq, is_some, IfSome, List, [], ◌∷◌, ◌++◌, length, map, fold, get_or, drop, Option, None, Some, option_map, refl, sym, ap, ◌∙◌, subst, arith, add-one, drop-cons, append_assoc, length-append}
use Rattle.std.proofs.lemmas.List.{get_or-map, length-map}
use Rattle.std.specs.List.{flat_map}
use Rattle.mlt_frame.specs.declared.op.Op.{Op}
use Rattle.mlt_frame.specs.declared.op.Op.TheVariants.{Absent}
use Rattle.mlt_frame.specs.Stack.{Stack}
use Rattle.mlt_tree.specs.declared.node.Track.{Track}
use Rattle.mlt_tree.specs.declared.tree.Plant.{Plant}
use Rattle.mlt_tree.specs.Medium.{Medium}
use Rattle.mlt_tree.specs.Sizes.{ops, ops_of_rows}
use Rattle.mlt_tree.specs.Tree.{Tree}
use Rattle.mlt_tree.specs.Units.{track_tree, tracks_of}
use Rattle.mlt_start.specs.Code.{has_after, goes, ends_in, higher, highest, row_ops, plant_ops, keep_ops, planted_row, planted_rows, rows_code, or_absent}
use Rattle.mlt_start.specs.Found.{row_code}
use Rattle.mlt_start.specs.Pushed.{IsAbove, IsPushed}
use Rattle.mlt_start.proofs.Counted.{length-ends, highest-inside}
use Rattle.mlt_start.proofs.Meant.{length-rows}
use Rattle.mlt_start.proofs.UnitTrees.{length-tracks}

-- as many rows as tracks
pub length-track_rows : (v : Medium) (units : ℕ → Tree) (tracks : List Track) (n : ℕ) → length (rows_code v (tracks_of units tracks) n) ≡ length tracks
length-track_rows v units tracks n = length-rows v (tracks_of units tracks) n ∙ length-tracks units tracks

-- the row that shows is one of the tracks
pub planned-inside : (v : Medium) (units : ℕ → Tree) (tracks : List Track) (n : ℕ) (plants : List Plant) (k : ℕ) → Some k ≡ highest (fold (has_after v n) (map is_some (rows_code v (tracks_of units tracks) n)) plants) → k < length tracks
planned-inside v units tracks n plants k is =
    let has : List Bool = map is_some (rows_code v (tracks_of units tracks) n) in
    let after : List Bool = fold (has_after v n) has plants in
    let inside : k < length after = subst (λ top. IfSome top (λ i. i < length after)) (sym is) (highest-inside after) in
    omega (arith, inside, length-ends v n has plants, length-map (rows_code v (tracks_of units tracks) n) is_some, length-track_rows v units tracks n)

-- the same rows are wanted
row_ops-same : (wanted wanted' : ℕ → Bool) (from : ℕ) (cs : List (Option (List Op))) → ((j : ℕ) → j < from + length cs → wanted j ≡ wanted' j) → row_ops wanted from cs ≡ row_ops wanted' from cs
row_ops-same wanted wanted' from [] same = refl
row_ops-same wanted wanted' from (c ∷ cs) same =
    ap (λ t. cond t (or_absent c) (Absent ∷ []) ++ row_ops wanted (from + 1) cs) (same from (omega arith))
    ∙ ap (λ ops. cond (wanted' from) (or_absent c) (Absent ∷ []) ++ ops) (row_ops-same wanted wanted' (from + 1) cs (λ j inside. same j (omega (arith, inside))))

module _ (v : Medium) (n : ℕ) (plants : List Plant) (cs : List (Option (List Op))) (old new : Stack) where
  abbrev after : List Bool
  after = fold (has_after v n) (map is_some cs) plants

  -- the rows that end in the highest that has something, the plants, and the choice of that row
  pub pushed-planned : (count k : ℕ) (ends : List ℕ) → count ≡ length cs → Some k ≡ highest after → ((j : ℕ) → j < count → get_or ends j 0 ≡ ends_in v n (map is_some cs) plants j)
      → IsAbove (row_ops (λ j. nat_eq (get_or ends j 0) k) 0 cs ++ (flat_map (plant_ops v n count) plants ++ keep_ops count k)) old new → IsPushed (planted_rows v n plants cs) old new true
  pushed-planned count k ends is top each above =
      let same = row_ops-same (λ j. nat_eq (get_or ends j 0) k) (λ j. nat_eq (ends_in v n (map is_some cs) plants j) k) 0 cs (λ j inside. ap (λ i. nat_eq i k) (each j (omega (arith, inside, is)))) in
      let whole = subst (λ ops. IsAbove (ops ++ (flat_map (plant_ops v n count) plants ++ keep_ops count k)) old new) same above in
      subst (λ top. IsPushed (option_map (planted_row v n plants cs) top) old new true) top
      (record { above = subst (λ c. IsAbove (row_ops (λ j. nat_eq (ends_in v n (map is_some cs) plants j) k) 0 cs ++ (flat_map (plant_ops v n c) plants ++ keep_ops c k)) old new) is whole; something = refl })

-- ---- the highest row, from above

highest-more : (has : List Bool) (i : ℕ) → i < length has → highest (drop i has) ≡ higher (get_or has i false) (highest (drop (i + 1) has))
highest-more has i inside =
    ap highest (drop-cons has i false inside) ∙ ap (λ j. higher (get_or has i false) (highest (drop j has))) (sym (add-one i))

highest-above : (has : List Bool) (i k j : ℕ) → highest (drop i has) ≡ Some k → j ≡ i + k → highest has ≡ Some j
highest-above has zero k j is at = is ∙ ap Some (zero-more k j at) where
  zero-more : (k j : ℕ) → j ≡ 0 + k → k ≡ j
  zero-more k j at = omega (arith, at)
highest-above [] (suc i) k j is at = absurd cc
highest-above (h ∷ has) (suc i) k j is at = ap (higher h) (highest-above has i k (i + k) is refl) ∙ ap Some (one-more i k j at) where
  one-more : (i k j : ℕ) → j ≡ suc i + k → i + k + 1 ≡ j
  one-more i k j at = omega (arith, at)

-- a row that has something, where those above it have nothing
pub highest-found : (has : List Bool) (row : ℕ) → 0 < row → row ≤ length has → true ≡ get_or has (row - 1) false → highest (drop row has) ≡ None → Some (row - 1) ≡ highest has
highest-found has row some inside is nothing =
    let next : row - 1 + 1 ≡ row = omega (arith, some) in
    let it : highest (drop (row - 1) has) ≡ Some 0 = highest-more has (row - 1) (omega (arith, some, inside)) ∙ ap (λ h. higher h (highest (drop (row - 1 + 1) has))) (sym is) ∙ ap (λ i. higher true (highest (drop i has))) next ∙ ap (higher true) nothing in
    sym (highest-above has (row - 1) 0 (row - 1) it (omega arith))

-- ---- plants are followed, one after another

map-twice : {A B C : Type 0} → (f : B → C) (g : A → B) (xs : List A) → map f (map g xs) ≡ map (λ x. f (g x)) xs
map-twice f g [] = refl
map-twice f g (x ∷ xs) = ap (λ ys. f (g x) ∷ ys) (map-twice f g xs)

map-same : {A : Type 0} → (xs : List A) → map (λ x. x) xs ≡ xs
map-same [] = refl
map-same (x ∷ xs) = ap (λ ys. x ∷ ys) (map-same xs)

drop_past : {A : Type 0} → (xs : List A) (i : ℕ) → length xs ≤ i → drop i xs ≡ []
drop_past [] zero past = refl
drop_past [] (suc i) past = refl
drop_past (x ∷ xs) zero past = absurd (omega (arith, past))
drop_past (x ∷ xs) (suc i) past = drop_past xs i (omega (arith, past))

module _ (v : Medium) (n : ℕ) (plants : List Plant) (i : ℕ) (has : List Bool) (ends : List ℕ) where
  module _ (plant : Plant) (inside : i < length plants) (at : plant ≡ get_or plants i plant) where
    rest : drop i plants ≡ plant ∷ drop (i + 1) plants
    rest = drop-cons plants i plant inside ∙ ap (λ p. p ∷ drop (suc i) plants) (sym at) ∙ ap (λ j. plant ∷ drop j plants) (sym (add-one i))

    pub has-followed : (all has' : List Bool) → fold (has_after v n) has (drop i plants) ≡ all → has' ≡ has_after v n has plant → fold (has_after v n) has' (drop (i + 1) plants) ≡ all
    has-followed all has' so_far is =
        ap (λ hs. fold (has_after v n) hs (drop (i + 1) plants)) is ∙ ap (fold (has_after v n) has) (sym rest) ∙ so_far

    pub ends-followed : (all ends' : List ℕ) (has' : List Bool) → map (ends_in v n has (drop i plants)) ends ≡ all → has' ≡ has_after v n has plant → ends' ≡ map (λ row. goes v n has row plant) ends
        → map (ends_in v n has' (drop (i + 1) plants)) ends' ≡ all
    ends-followed all ends' has' so_far has_is is =
        ap (map (ends_in v n has' (drop (i + 1) plants))) is
        ∙ ap (λ hs. map (ends_in v n hs (drop (i + 1) plants)) (map (λ row. goes v n has row plant) ends)) has_is
        ∙ map-twice (ends_in v n (has_after v n has plant) (drop (i + 1) plants)) (λ row. goes v n has row plant) ends
        ∙ ap (λ ps. map (ends_in v n has ps) ends) (sym rest)
        ∙ so_far

  -- where none is left, each is where it ends
  pub all-followed : (all : List ℕ) → length plants ≤ i → map (ends_in v n has (drop i plants)) ends ≡ all → ends ≡ all
  all-followed all past so_far =
      sym (map-same ends) ∙ ap (λ ps. map (ends_in v n has ps) ends) (sym (drop_past plants i past)) ∙ so_far

-- the rows that are planned
pub planned-ends : (v : Medium) (n : ℕ) (plants : List Plant) (has has' : List Bool) (ends ends' : List ℕ) (row : ℕ) → row < length ends → ends' ≡ map (ends_in v n has plants) ends → get_or ends row 0 ≡ row → has ≡ has'
    → get_or ends' row 0 ≡ ends_in v n has' plants row
planned-ends v n plants has has' ends ends' row inside is own same =
    ap (λ es. get_or es row 0) is
    ∙ get_or-map (ends_in v n has plants) ends row 0 0 inside
    ∙ ap (ends_in v n has plants) own
    ∙ ap (λ hs. ends_in v n hs plants row) same

-- ---- rows are pushed, one after another

module _ (v : Medium) (units : ℕ → Tree) (n : ℕ) (wanted : ℕ → Bool) (tracks : List Track) (i : ℕ) (track : Track) (inside : i < length tracks) (at : track ≡ get_or tracks i track) where
  tracks-rest : drop i tracks ≡ track ∷ drop (i + 1) tracks
  tracks-rest = drop-cons tracks i track inside ∙ ap (λ t. t ∷ drop (suc i) tracks) (sym at) ∙ ap (λ j. track ∷ drop j tracks) (sym (add-one i))

  abbrev one : List Op
  one = cond (wanted i) (or_absent (row_code v units n track)) (Absent ∷ [])

  -- with the others it is what all come to
  pub row-pushed : (all : List Op) (old new : Stack) → old.ops ++ row_ops wanted i (rows_code v (tracks_of units (drop i tracks)) n) ≡ all → IsAbove one old new
      → new.ops ++ row_ops wanted (i + 1) (rows_code v (tracks_of units (drop (i + 1) tracks)) n) ≡ all
  row-pushed all old new so_far above =
      ap (λ ops. ops ++ row_ops wanted (i + 1) (rows_code v (tracks_of units (drop (i + 1) tracks)) n)) above.ops
      ∙ append_assoc old.ops one (row_ops wanted (i + 1) (rows_code v (tracks_of units (drop (i + 1) tracks)) n))
      ∙ ap (λ ts. old.ops ++ row_ops wanted i (rows_code v (tracks_of units ts) n)) (sym tracks-rest)
      ∙ so_far

  -- there is room for the row, and for the others afterwards
  pub row-room : (s : ℕ) → ops_of_rows (tracks_of units (drop i tracks)) ≤ s → ops (track_tree units track) ≤ s
  row-room s room =
      let all : ops_of_rows (tracks_of units (drop i tracks)) ≡ ops (track_tree units track) + ops_of_rows (tracks_of units (drop (i + 1) tracks)) = ap (λ ts. ops_of_rows (tracks_of units ts)) tracks-rest in
      omega (arith, room, all)

  pub rows-room : (old new : Stack) → ops_of_rows (tracks_of units (drop i tracks)) ≤ old.spare → IsAbove one old new → length one ≤ ops (track_tree units track) → ops_of_rows (tracks_of units (drop (i + 1) tracks)) ≤ new.spare
  rows-room old new room above few =
      let all : ops_of_rows (tracks_of units (drop i tracks)) ≡ ops (track_tree units track) + ops_of_rows (tracks_of units (drop (i + 1) tracks)) = ap (λ ts. ops_of_rows (tracks_of units ts)) tracks-rest in
      omega (arith, room, all, few, above.room, ap length above.ops, length-append old.ops one)

-- room that is left above what was pushed
pub left-above : (pushed : List Op) (old new : Stack) (k : ℕ) → IsAbove pushed old new → length pushed + k ≤ old.spare → k ≤ new.spare
left-above pushed old new k above room = omega (arith, room, above.room, ap length above.ops, length-append old.ops pushed)
