-- Past its length a tree has nothing and needs nothing.
use Rattle.std.proofs.Common.{ℕ, ◌≡◌, ◌+◌, ◌-◌, ◌≤◌, zero, suc, Bool, true, false, ◌&&◌, ltb, cond, nat_eq, List, [], ◌∷◌, ◌++◌, fold, get_or, set, Option, None, option_map, refl, sym, ap, subst, ◌∙◌, arith}
use Rattle.std.proofs.lemmas.Bool.Decides.{nat_tests}
use Rattle.std.specs.List.{list_any}
use Rattle.mlt_tree.specs.declared.tree.Plant.{Plant}
use Rattle.mlt_tree.specs.declared.tree.Plant.TheVariants.{OnTrack, Between}
use Rattle.mlt_tree.specs.Acting.{holds, passed, span_frames, filter_step, merge_step}
use Rattle.mlt_tree.specs.Meaning.{Matter, mean, mean_in, rows, shown, or_under, planted, merged_into, filtered_by}
use Rattle.mlt_tree.specs.Medium.{Medium, Pictures, makes, hides, merges}
use Rattle.mlt_tree.specs.Needs.{needs, needs_in, needs_of_rows, rows_shown}
use Rattle.mlt_tree.specs.Tree.{Tree, Parts, Tracks, Src, Blank, Part, Seq, With, Rows, End, Then, NoTrack, Track, len, len_in, longest}

-- a test that fails chooses the second
not_below : {B : Type 0} → (n k : ℕ) → (x y : B) → k ≤ n → cond (ltb n k) x y ≡ y
not_below n k x y h = grind (arith, nat_tests)

-- and so does one test more
neither : {B : Type 0} → (t : Bool) → (n k : ℕ) → (x y : B) → k ≤ n → cond (t && ltb n k) x y ≡ y
neither true n k x y h = not_below n k x y h
neither false n k x y h = refl

-- the same either way
either : {B : Type 0} → (t : Bool) → (x y z : B) → x ≡ z → y ≡ z → cond t x y ≡ z
either true x y z h k = h
either false x y z h k = k

-- ---- rows that have nothing, which no plant changes

abbrev AreNone : {A : Type 0} → List (Option A) → Type 0
AreNone [] = Unit {0}
AreNone (row ∷ rows) = (row ≡ None) × AreNone rows

none_at : {A : Type 0} → (rows : List (Option A)) (k : ℕ) → AreNone rows → get_or rows k None ≡ None
none_at [] k h = refl
none_at (row ∷ rows) zero h = h.0
none_at (row ∷ rows) (suc k) h = none_at rows k h.1

none_put : {A : Type 0} → (rows : List (Option A)) (k : ℕ) (row : Option A) → row ≡ None → AreNone rows → AreNone (set rows k row)
none_put [] k row is h = h
none_put (x ∷ rows) zero row is h = (is, h.1)
none_put (x ∷ rows) (suc k) row is h = (h.0, none_put rows k row is h.1)

none_cond : {A : Type 0} → (t : Bool) (x y : List (Option A)) → AreNone x → AreNone y → AreNone (cond t x y)
none_cond true x y first second = first
none_cond false x y first second = second

none_shown : {A : Type 0} → (rows : List (Option A)) → AreNone rows → shown rows ≡ None
none_shown [] h = refl
none_shown (row ∷ rows) h = ap (λ below. or_under below row) (none_shown rows h.1) ∙ h.0

module _ {A : Type 0} (v : Medium) (m : Matter A) (n : ℕ) where
  none_planted : (rs : List (Option A)) (plant : Plant) → AreNone rs → AreNone (planted v m n rs plant)
  none_planted rs (OnTrack k spec span) h =
      let f = m.filter (filter_step spec (passed span n)) in
      none_cond (holds span n) (set rs k (option_map f (get_or rs k None))) rs (none_put rs k (option_map f (get_or rs k None)) (ap (option_map f) (none_at rs k h)) h) h
  none_planted rs (Between a b spec span) h =
      let g = m.merge (merge_step spec (passed span n) (span_frames span)) in
      none_cond (holds span n && merges v spec) (merged_into g a b rs (get_or rs b None)) rs (subst AreNone (sym (ap (merged_into g a b rs) (none_at rs b h))) h) h

  none_all : (rs : List (Option A)) (plants : List Plant) → AreNone rs → AreNone (fold (planted v m n) rs plants)
  none_all rs [] h = h
  none_all rs (plant ∷ plants) h = none_all (planted v m n rs plant) plants (none_planted rs plant h)

mutual
  -- a tree has nothing past its length
  pub past : {A : Type 0} → (v : Medium) (m : Matter A) (t : Tree) (n : ℕ) → len t ≤ n → mean v m t n ≡ None
  past v m (Src source kind frames) n h = neither (makes v kind) n frames _ None h
  past v m (Blank frames) n h = refl
  past v m (Part t first last) n h = not_below n (last + 1 - first) _ None h
  past v m (Seq parts) n h = past_in v m parts n h
  past v m (With t filters) n h = ap (option_map (λ x. fold (filtered_by m n) x filters)) (past v m t n h)
  past v m (Rows tracks plants) n h =
      none_shown (fold (planted v m n) (rows v m tracks n) plants) (none_all v m n (rows v m tracks n) plants (past_rows v m tracks n h))

  pub past_in : {A : Type 0} → (v : Medium) (m : Matter A) (parts : Parts) (n : ℕ) → len_in parts ≤ n → mean_in v m parts n ≡ None
  past_in v m End n h = refl
  past_in v m (Then t parts) n h = not_below n (len t) _ _ (omega arith) ∙ past_in v m parts (n - len t) (omega arith)

  past_rows : {A : Type 0} → (v : Medium) (m : Matter A) (tracks : Tracks) (n : ℕ) → longest tracks ≤ n → AreNone (rows v m tracks n)
  past_rows v m NoTrack n h = tt
  past_rows v m (Track t hide tracks) n h =
      (either (hides v hide) None (mean v m t n) None refl (past v m t n (omega arith)), past_rows v m tracks n (omega arith))

mutual
  -- a tree needs nothing past its length
  pub needs_past : (t : Tree) (n : ℕ) → len t ≤ n → needs t n ≡ []
  needs_past (Src source kind frames) n h = neither (makes Pictures kind) n frames _ [] h
  needs_past (Blank frames) n h = refl
  needs_past (Part t first last) n h = not_below n (last + 1 - first) _ [] h
  needs_past (Seq parts) n h = needs_past_in parts n h
  needs_past (With t filters) n h = needs_past t n h
  needs_past (Rows tracks plants) n h = needs_past_rows (rows_shown tracks plants n) 0 tracks n h

  pub needs_past_in : (parts : Parts) (n : ℕ) → len_in parts ≤ n → needs_in parts n ≡ []
  needs_past_in End n h = refl
  needs_past_in (Then t parts) n h = not_below n (len t) _ _ (omega arith) ∙ needs_past_in parts (n - len t) (omega arith)

  pub needs_past_rows : (set : List ℕ) (row : ℕ) (tracks : Tracks) (n : ℕ) → longest tracks ≤ n → needs_of_rows set row tracks n ≡ []
  needs_past_rows set row NoTrack n h = refl
  needs_past_rows set row (Track t hide tracks) n h =
      ap (λ first. first ++ needs_of_rows set (row + 1) tracks n) (either (list_any (nat_eq row) set) (needs t n) [] [] (needs_past t n (omega arith)) refl) ∙ needs_past_rows set (row + 1) tracks n (omega arith)
