-- Plants on rows: which rows have something after them, and where each row's is.
use Rattle.std.proofs.Common.{ℕ, ◌≡◌, ◌≢◌, ◌+◌, ◌<◌, ◌≤◌, zero, suc, Bool, true, false, ◌&&◌, ◌||◌, cond, nat_eq, is_some, List, [], ◌∷◌, length, map, fold, get_or, set, Option, None, Some, option_map, refl, sym, ap, subst, ◌∙◌, arith, add-one}
use Rattle.std.proofs.lemmas.Bool.{eqb-true, eq-eqb}
use Rattle.std.proofs.lemmas.Bool.Decides.{nat_tests}
use Rattle.std.proofs.lemmas.Grind.{get_or-set_at}
use Rattle.std.proofs.lemmas.List.{length-set, get_or-set_other, map-set}
use Rattle.std.specs.List.{AllByRecursion, list_any}
use Rattle.mlt_tree.specs.declared.tree.Plant.{Plant}
use Rattle.mlt_tree.specs.declared.tree.Plant.TheVariants.{OnTrack, Between}
use Rattle.mlt_tree.specs.Acting.{holds, passed, span_frames, filter_step, merge_step}
use Rattle.mlt_tree.specs.Meaning.{Matter, shown, planted, merged_into}
use Rattle.mlt_tree.specs.Medium.{Medium}
use Rattle.mlt_tree.specs.Sizes.{tracks_in}
use Rattle.mlt_tree.specs.Tree.{Tree, Parts, Tracks, Src, Blank, Part, Seq, With, Rows, End, Then, NoTrack, Track}
use Rattle.mlt_tree.specs.Units.{IsOnTracks}
use Rattle.mlt_start.specs.Code.{merges_at, acts, has_after, goes, ends_in, higher, highest}

abbrev mutual
  -- a tree whose tracks are one at least, with its plants on them
  pub IsPlanted : Tree → Type 0
  IsPlanted (Src source kind frames) = Unit {0}
  IsPlanted (Blank frames) = Unit {0}
  IsPlanted (Part t first last) = IsPlanted t
  IsPlanted (Seq parts) = ArePlantedParts parts
  IsPlanted (With t filters) = IsPlanted t
  IsPlanted (Rows tracks plants) = (1 ≤ tracks_in tracks) × ArePlantedTracks tracks × AllByRecursion (IsOnTracks (tracks_in tracks)) plants

  pub ArePlantedParts : Parts → Type 0
  ArePlantedParts End = Unit {0}
  ArePlantedParts (Then t parts) = IsPlanted t × ArePlantedParts parts

  pub ArePlantedTracks : Tracks → Type 0
  ArePlantedTracks NoTrack = Unit {0}
  ArePlantedTracks (Track t hide tracks) = IsPlanted t × ArePlantedTracks tracks

-- ---- which rows have something

module _ {A : Type 0} where
  pub get-has : (rows : List (Option A)) (k : ℕ) → get_or (map is_some rows) k false ≡ is_some (get_or rows k None)
  get-has [] k = refl
  get-has (row ∷ rows) zero = refl
  get-has (row ∷ rows) (suc k) = get-has rows k

  has-filtered : (f : A → A) (rows : List (Option A)) (k : ℕ) → map is_some (set rows k (option_map f (get_or rows k None))) ≡ map is_some rows
  has-filtered f [] k = refl
  has-filtered f (None ∷ rows) zero = refl
  has-filtered f (Some x ∷ rows) zero = refl
  has-filtered f (row ∷ rows) (suc k) = ap (λ has. is_some row ∷ has) (has-filtered f rows k)

  has-filter : (t : Bool) (f : A → A) (rows : List (Option A)) (k : ℕ) → map is_some (cond t (set rows k (option_map f (get_or rows k None))) rows) ≡ map is_some rows
  has-filter true f rows k = has-filtered f rows k
  has-filter false f rows k = refl

  has-merge : (t : Bool) (g : Option A → A → A) (a b : ℕ) (rows : List (Option A)) (o : Option A) (h : Bool) → h ≡ is_some o
      → map is_some (cond t (merged_into g a b rows o) rows) ≡ cond (t && h) (set (set (map is_some rows) a true) b false) (map is_some rows)
  has-merge false g a b rows o h is = refl
  has-merge true g a b rows None true is = absurd cc
  has-merge true g a b rows None false is = refl
  has-merge true g a b rows (Some z) false is = absurd cc
  has-merge true g a b rows (Some z) true is =
      map-set is_some (set rows a (Some (g (get_or rows a None) z))) b None
      ∙ ap (λ has. set has b false) (map-set is_some rows a (Some (g (get_or rows a None) z)))

module _ {A : Type 0} (v : Medium) (m : Matter A) (n : ℕ) where
  pub has-planted : (rows : List (Option A)) (plant : Plant) → map is_some (planted v m n rows plant) ≡ has_after v n (map is_some rows) plant
  has-planted rows (OnTrack k spec span) =
      has-filter (holds span n) (m.filter (filter_step spec (passed span n))) rows k
  has-planted rows (Between a b spec span) =
      has-merge (merges_at v n spec span) (m.merge (merge_step spec (passed span n) (span_frames span))) a b rows (get_or rows b None) (get_or (map is_some rows) b false) (get-has rows b)

  pub has-all : (rows : List (Option A)) (plants : List Plant) → map is_some (fold (planted v m n) rows plants) ≡ fold (has_after v n) (map is_some rows) plants
  has-all rows [] = refl
  has-all rows (plant ∷ plants) =
      has-all (planted v m n rows plant) plants ∙ ap (λ has. fold (has_after v n) has plants) (has-planted rows plant)

-- ---- the highest row that has something

module _ {A : Type 0} where
  -- none has something, or this is the highest that has
  abbrev pub IsTop : List (Option A) → Option ℕ → Type 0
  IsTop rows None = shown rows ≡ None
  IsTop rows (Some k) = (x : A) × (k < length rows) × (shown rows ≡ Some x) × (get_or rows k None ≡ Some x)

  top-above : (row : Option A) (rows : List (Option A)) (top : Option ℕ) → IsTop rows top → IsTop (row ∷ rows) (higher (is_some row) top)
  top-above None rows None h = rw h refl
  top-above (Some x) rows None h = (x, omega arith, rw h refl, refl)
  top-above row rows (Some k) (x, inside, shows, at) = (x, omega (arith, inside), rw shows refl, ap (λ i. get_or (row ∷ rows) i None) (add-one k) ∙ at)

  pub top-of : (rows : List (Option A)) → IsTop rows (highest (map is_some rows))
  top-of [] = refl
  top-of (row ∷ rows) = top-above row rows (highest (map is_some rows)) (top-of rows)

-- ---- where what a row has is after plants

pub not-equal : (a b : ℕ) → a ≢ b → nat_eq a b ≡ false
not-equal a b apart = grind (arith, nat_tests)

pub from-zero : (from k : ℕ) → k ≡ from + 0 → from ≡ k
from-zero from k is = omega (arith, is)

pub zero-from : (i j : ℕ) → j ≡ 0 + i → i ≡ j
zero-from i j is = omega (arith, is)

-- the same either way
pub cond-both : (t : Bool) {A : Type 0} (x : Option A) → cond t x x ≡ x
cond-both true x = refl
cond-both false x = refl

module _ {A : Type 0} where
  get-set : (rows : List (Option A)) (k j : ℕ) (x : Option A) → k < length rows → get_or (set rows k x) j None ≡ cond (nat_eq j k) x (get_or rows j None)
  get-set rows k j x inside = by (nat_eq j k) refl where
    by : (t : Bool) → nat_eq j k ≡ t → get_or (set rows k x) j None ≡ cond t x (get_or rows j None)
    by true is = get_or-set_at rows k j x None (eqb-true j k is) inside
    by false is = get_or-set_other rows k j x None (grind (arith, nat_tests))

  -- among rows of which some are kept, those that a test passes
  pub record AreKept (wanted : ℕ → Bool) (rows kept : List (Option A)) : Type 0 where
    pub long : length kept ≡ length rows
    pub each : (j : ℕ) → get_or kept j None ≡ cond (wanted j) (get_or rows j None) None

  map-kept : (f : A → A) (t : Bool) (x : Option A) → option_map f (cond t x None) ≡ cond t (option_map f x) None
  map-kept f true x = refl
  map-kept f false x = refl

  put-kept : (t w w' : Bool) (x y : Option A) → (t ≡ true → w ≡ w') → cond t (cond w x None) (cond w' y None) ≡ cond w' (cond t x y) None
  put-kept true w w' x y same = ap (λ s. cond s x None) (same refl)
  put-kept false w w' x y same = refl

  kept-filter : (t : Bool) (f : A → A) (k : ℕ) (wanted : ℕ → Bool) (rows kept : List (Option A)) → k < length rows → AreKept wanted rows kept
      → AreKept wanted (cond t (set rows k (option_map f (get_or rows k None))) rows) (cond t (set kept k (option_map f (get_or kept k None))) kept)
  kept-filter false f k wanted rows kept inside are = are
  kept-filter true f k wanted rows kept inside are = record {
    long = length-set kept k _ ∙ are.long ∙ sym (length-set rows k _);
    each = λ j.
        get-set kept k j (option_map f (get_or kept k None)) (omega (arith, inside, are.long))
        ∙ ap (λ x. cond (nat_eq j k) (option_map f x) (get_or kept j None)) (are.each k)
        ∙ ap (λ x. cond (nat_eq j k) x (get_or kept j None)) (map-kept f (wanted k) (get_or rows k None))
        ∙ ap (λ x. cond (nat_eq j k) (cond (wanted k) (option_map f (get_or rows k None)) None) x) (are.each j)
        ∙ put-kept (nat_eq j k) (wanted k) (wanted j) (option_map f (get_or rows k None)) (get_or rows j None) (λ is. ap wanted (sym (eqb-true j k is)))
        ∙ ap (λ x. cond (wanted j) x None) (sym (get-set rows k j (option_map f (get_or rows k None)) inside));
  }

  -- of a row, where a test is for row b and another for row a: what is put into row a is wanted, or it isn't
  put-wanted : (to_b to_a w w' : Bool) (y x : Option A) → (to_a ≡ true → w ≡ true) → (to_b ≡ false → w' ≡ w) → cond to_b None (cond to_a y (cond w' x None)) ≡ cond w (cond to_b None (cond to_a y x)) None
  put-wanted true to_a w w' y x there same = sym (cond-both w None)
  put-wanted false true w w' y x there same = ap (λ t. cond t y None) (sym (there refl))
  put-wanted false false w w' y x there same = ap (λ t. cond t x None) (same refl)

  put-unwanted : (to_b to_a w w' : Bool) (y x : Option A) → (to_b ≡ true → w' ≡ false) → (to_a ≡ true → w ≡ false) → (to_b ≡ false → w' ≡ w) → cond w' x None ≡ cond w (cond to_b None (cond to_a y x)) None
  put-unwanted true to_a w w' y x from there same = ap (λ t. cond t x None) (from refl) ∙ sym (cond-both w None)
  put-unwanted false true w w' y x from there same =
      ap (λ t. cond t x None) (same refl ∙ there refl) ∙ ap (λ t. cond t y None) (sym (there refl))
  put-unwanted false false w w' y x from there same = ap (λ t. cond t x None) (same refl)

  -- row b is put into row a
  abbrev moved : (Option A → A → A) → (a b : ℕ) → List (Option A) → A → List (Option A)
  moved g a b rows z = set (set rows a (Some (g (get_or rows a None) z))) b None

  pub get-moved : (g : Option A → A → A) (a b : ℕ) (rows : List (Option A)) (z : A) (j : ℕ) → a < length rows → b < length rows
      → get_or (moved g a b rows z) j None ≡ cond (nat_eq j b) None (cond (nat_eq j a) (Some (g (get_or rows a None) z)) (get_or rows j None))
  get-moved g a b rows z j a_in b_in =
      get-set (set rows a (Some (g (get_or rows a None) z))) b j None (omega (arith, length-set rows a (Some (g (get_or rows a None) z)), b_in))
      ∙ ap (λ x. cond (nat_eq j b) None x) (get-set rows a j (Some (g (get_or rows a None) z)) a_in)

  module _ (g : Option A → A → A) (a b : ℕ) (wanted : ℕ → Bool) (rows kept : List (Option A)) (a_in : a < length rows) (b_in : b < length rows) (apart : a ≢ b) where
    -- where row b has nothing, it is left where it is, and so are those that are kept of it
    kept-none : (are : AreKept wanted rows kept) → get_or rows b None ≡ None → AreKept wanted rows (merged_into g a b kept (get_or kept b None))
    kept-none are none = subst (λ x. AreKept wanted rows (merged_into g a b kept x)) (sym (are.each b ∙ ap (λ x. cond (wanted b) x None) none ∙ cond-both (wanted b) None)) are

    kept-moved : (z : A) → get_or rows b None ≡ Some z → AreKept (λ j. wanted (cond (nat_eq j b) a j)) rows kept → AreKept wanted (moved g a b rows z) (merged_into g a b kept (get_or kept b None))
    kept-moved z some are = by (wanted a) refl where
      from_b : get_or kept b None ≡ cond (wanted a) (Some z) None
      from_b =
          are.each b
          ∙ ap (λ t. cond (wanted (cond t a b)) (get_or rows b None) None) (eq-eqb b b refl)
          ∙ ap (λ x. cond (wanted a) x None) some

      from_a : get_or kept a None ≡ cond (wanted a) (get_or rows a None) None
      from_a = are.each a ∙ ap (λ t. cond (wanted (cond t a a)) (get_or rows a None) None) (not-equal a b apart)

      put : A → Option A
      put z = Some (g (get_or rows a None) z)

      by : (t : Bool) → wanted a ≡ t → AreKept wanted (moved g a b rows z) (merged_into g a b kept (get_or kept b None))
      by true is =
          subst (λ x. AreKept wanted (moved g a b rows z) (merged_into g a b kept x)) (sym (from_b ∙ ap (λ t. cond t (Some z) None) is)) (record {
            long = simp (length-set, are.long) refl;
            each = λ j.
                get-moved g a b kept z j (omega (arith, a_in, are.long)) (omega (arith, b_in, are.long))
                ∙ ap (λ x. cond (nat_eq j b) None (cond (nat_eq j a) (Some (g x z)) (get_or kept j None))) (from_a ∙ ap (λ t. cond t (get_or rows a None) None) is)
                ∙ ap (λ x. cond (nat_eq j b) None (cond (nat_eq j a) (put z) x)) (are.each j)
                ∙ put-wanted (nat_eq j b) (nat_eq j a) (wanted j) (wanted (cond (nat_eq j b) a j)) (put z) (get_or rows j None) (λ e. ap wanted (eqb-true j a e) ∙ is) (λ e. ap (λ t. wanted (cond t a j)) e)
                ∙ ap (λ x. cond (wanted j) x None) (sym (get-moved g a b rows z j a_in b_in));
          })
      by false is =
          subst (λ x. AreKept wanted (moved g a b rows z) (merged_into g a b kept x)) (sym (from_b ∙ ap (λ t. cond t (Some z) None) is)) (record {
            long = simp (length-set, are.long) refl;
            each = λ j.
                are.each j
                ∙ put-unwanted (nat_eq j b) (nat_eq j a) (wanted j) (wanted (cond (nat_eq j b) a j)) (put z) (get_or rows j None) (λ e. ap (λ t. wanted (cond t a j)) e ∙ is) (λ e. ap wanted (eqb-true j a e) ∙ is) (λ e. ap (λ t. wanted (cond t a j)) e)
                ∙ ap (λ x. cond (wanted j) x None) (sym (get-moved g a b rows z j a_in b_in));
          })

    kept-merge : (t : Bool) → AreKept (λ j. wanted (cond ((t && get_or (map is_some rows) b false) && nat_eq j b) a j)) rows kept
        → AreKept wanted (cond t (merged_into g a b rows (get_or rows b None)) rows) (cond t (merged_into g a b kept (get_or kept b None)) kept)
    kept-merge false are = are
    kept-merge true are = by (get_or rows b None) refl where
      from : (h : Bool) → get_or (map is_some rows) b false ≡ h → AreKept (λ j. wanted (cond (h && nat_eq j b) a j)) rows kept
      from h is = subst (λ t. AreKept (λ j. wanted (cond (t && nat_eq j b) a j)) rows kept) is are

      by : (o : Option A) → get_or rows b None ≡ o → AreKept wanted (merged_into g a b rows o) (merged_into g a b kept (get_or kept b None))
      by None is = kept-none (from false (get-has rows b ∙ ap is_some is)) is
      by (Some z) is = kept-moved z is (from true (get-has rows b ∙ ap is_some is))

module _ {A : Type 0} (v : Medium) (m : Matter A) (n : ℕ) where
  length-filter : (t : Bool) (rows : List (Option A)) (k : ℕ) (x : Option A) → length (cond t (set rows k x) rows) ≡ length rows
  length-filter true rows k x = length-set rows k x
  length-filter false rows k x = refl

  length-merge : (t : Bool) (g : Option A → A → A) (a b : ℕ) (rows : List (Option A)) (o : Option A) → length (cond t (merged_into g a b rows o) rows) ≡ length rows
  length-merge false g a b rows o = refl
  length-merge true g a b rows None = refl
  length-merge true g a b rows (Some z) = simp length-set refl

  pub length-planted : (rows : List (Option A)) (plant : Plant) → length (planted v m n rows plant) ≡ length rows
  length-planted rows (OnTrack k spec span) = length-filter (holds span n) rows k _
  length-planted rows (Between a b spec span) = length-merge (merges_at v n spec span) (m.merge (merge_step spec (passed span n) (span_frames span))) a b rows (get_or rows b None)

  kept-planted : (plant : Plant) (wanted : ℕ → Bool) (rows kept : List (Option A)) → IsOnTracks (length rows) plant → AreKept (λ j. wanted (goes v n (map is_some rows) j plant)) rows kept
      → AreKept wanted (planted v m n rows plant) (planted v m n kept plant)
  kept-planted (OnTrack k spec span) wanted rows kept on are =
      kept-filter (holds span n) (m.filter (filter_step spec (passed span n))) k wanted rows kept on are
  kept-planted (Between a b spec span) wanted rows kept on are =
      kept-merge (m.merge (merge_step spec (passed span n) (span_frames span))) a b wanted rows kept on.0 on.1 on.2 (merges_at v n spec span) are

  -- rows of which those are kept that end in wanted ones
  pub kept-all : (plants : List Plant) (wanted : ℕ → Bool) (rows kept : List (Option A)) (count : ℕ) → count ≡ length rows → AllByRecursion (IsOnTracks count) plants → AreKept (λ j. wanted (ends_in v n (map is_some rows) plants j)) rows kept
      → AreKept wanted (fold (planted v m n) rows plants) (fold (planted v m n) kept plants)
  kept-all [] wanted rows kept count is on are = are
  kept-all (plant ∷ plants) wanted rows kept count is on are =
      kept-all plants wanted (planted v m n rows plant) (planted v m n kept plant) count (is ∙ sym (length-planted rows plant)) on.1
      (kept-planted plant (λ j. wanted (ends_in v n (map is_some (planted v m n rows plant)) plants j)) rows kept (subst (λ c. IsOnTracks c plant) is on.0)
      (subst (λ has. AreKept (λ j. wanted (ends_in v n has plants (goes v n (map is_some rows) j plant))) rows kept) (sym (has-planted v m n rows plant)) are))

  -- ---- plants that don't act

  still : (t : Bool) (x y : List (Option A)) → t ≡ false → cond t x y ≡ y
  still true x y is = absurd cc
  still false x y is = refl

  still-one : (plant : Plant) (rows : List (Option A)) → acts v n plant ≡ false → planted v m n rows plant ≡ rows
  still-one (OnTrack k spec span) rows is = still (holds span n) _ rows is
  still-one (Between a b spec span) rows is = still (merges_at v n spec span) _ rows is

  neither : (s t : Bool) → s || t ≡ false → (s ≡ false) × (t ≡ false)
  neither true t is = absurd cc
  neither false t is = (refl, is)

  -- where no plant acts the rows stay as they are
  pub still-all : (plants : List Plant) (rows : List (Option A)) → list_any (acts v n) plants ≡ false → fold (planted v m n) rows plants ≡ rows
  still-all [] rows is = refl
  still-all (plant ∷ plants) rows is =
      let none = neither (acts v n plant) (list_any (acts v n) plants) is in
      ap (λ rs. fold (planted v m n) rs plants) (still-one plant rows none.0) ∙ still-all plants rows none.1
