-- Whether tracks have something, which plants leave as it is.
use Rattle.std.proofs.Common.{ℕ, ◌≡◌, ◌≢◌, ◌+◌, ◌<◌, Bool, true, false, ◌&&◌, ◌||◌, cond, is_some, List, [], ◌∷◌, ◌++◌, length, map, fold, get_or, set, take, drop, Option, None, Some, option_map, refl, sym, ap, ◌∙◌, subst, arith}
use Rattle.std.proofs.lemmas.List.{length-map, map-append, length-set, get_or-set_same, get_or-set_other, take_more, take_more_set}
use Rattle.std.proofs.lemmas.List.Folds.{list_any_at}
use Rattle.std.specs.List.{AllByRecursion, list_any}
use Rattle.mlt_frame.specs.declared.op.Op.{Op}
use Rattle.mlt_tree.specs.declared.node.Track.{Track}
use Rattle.mlt_tree.specs.declared.tree.Attached.{Attached}
use Rattle.mlt_tree.specs.declared.tree.Plant.{Plant}
use Rattle.mlt_tree.specs.declared.tree.Plant.TheVariants.{OnTrack, Between}
use Rattle.mlt_tree.specs.Meaning.{shown, or_under}
use Rattle.mlt_tree.specs.Medium.{Medium}
use Rattle.mlt_tree.specs.Tree.{Tree, With}
use Rattle.mlt_tree.specs.Units.{IsOnTracks, tracks_of}
use Rattle.mlt_start.specs.Code.{code, with_filters, merges_at, acts, has_after, higher, highest, planted_row, planted_rows, rows_code}
use Rattle.mlt_start.specs.Found.{row_code, shown_code}
use Rattle.mlt_start.proofs.Counted.{length-after}
use Rattle.mlt_start.proofs.Walked.{row-more, rows-under}

-- what is made of something is something
pub has-same : {A B : Type 0} → (f : A → B) (x : Option A) → is_some (option_map f x) ≡ is_some x
has-same f None = refl
has-same f (Some x) = refl

-- ---- rows

has-higher : (h : Bool) (top : Option ℕ) → is_some (higher h top) ≡ (h || is_some top)
has-higher true None = refl
has-higher true (Some k) = refl
has-higher false None = refl
has-higher false (Some k) = refl

has-highest : (has : List Bool) → is_some (highest has) ≡ list_any (λ h. h) has
has-highest [] = refl
has-highest (h ∷ has) = has-higher h (highest has) ∙ ap (λ t. h || t) (has-highest has)

has-under : {A : Type 0} → (above : Option A) (row : Option A) → is_some (or_under above row) ≡ (is_some row || is_some above)
has-under None None = refl
has-under None (Some x) = refl
has-under (Some y) None = refl
has-under (Some y) (Some x) = refl

pub has-shown : {A : Type 0} → (rows : List (Option A)) → is_some (shown rows) ≡ list_any (λ h. h) (map is_some rows)
has-shown [] = refl
has-shown (row ∷ rows) = has-under (shown rows) row ∙ ap (λ t. is_some row || t) (has-shown rows)

module _ (v : Medium) (n : ℕ) where
  -- a merge moves what a row has
  has-moved : (t h : Bool) (a b : ℕ) (has : List Bool) → a < length has → b < length has → a ≢ b → h ≡ get_or has b false
      → list_any (λ h. h) (cond (t && h) (set (set has a true) b false) has) ≡ list_any (λ h. h) has
  has-moved false h a b has a_in b_in apart is = refl
  has-moved true false a b has a_in b_in apart is = refl
  has-moved true true a b has a_in b_in apart is =
      let inside : a < length (set (set has a true) b false) = omega (arith, a_in, length-set (set has a true) b false, length-set has a true) in
      list_any_at (λ h. h) (set (set has a true) b false) a false inside (get_or-set_other (set has a true) b a false false apart ∙ get_or-set_same has a true false a_in)
      ∙ sym (list_any_at (λ h. h) has b false b_in (sym is))

  has-one : (has : List Bool) (plant : Plant) → IsOnTracks (length has) plant → list_any (λ h. h) (has_after v n has plant) ≡ list_any (λ h. h) has
  has-one has (OnTrack k spec span) on = refl
  has-one has (Between a b spec span) on =
      has-moved (merges_at v n spec span) (get_or has b false) a b has on.0 on.1 on.2 refl

  has-planted : (has : List Bool) (plants : List Plant) (count : ℕ) → count ≡ length has → AllByRecursion (IsOnTracks count) plants
      → list_any (λ h. h) (fold (has_after v n) has plants) ≡ list_any (λ h. h) has
  has-planted has [] count is on = refl
  has-planted has (plant ∷ plants) count is on =
      has-planted (has_after v n has plant) plants count (is ∙ sym (length-after v n has plant)) on.1
      ∙ has-one has plant (subst (λ c. IsOnTracks c plant) is on.0)

  -- so rows with plants have something where they have without
  pub has-rows : (cs : List (Option (List Op))) (plants : List Plant) → AllByRecursion (IsOnTracks (length cs)) plants
      → is_some (cond (list_any (acts v n) plants) (planted_rows v n plants cs) (shown cs)) ≡ is_some (shown cs)
  has-rows cs plants on = by (list_any (acts v n) plants) where
    by : (t : Bool) → is_some (cond t (planted_rows v n plants cs) (shown cs)) ≡ is_some (shown cs)
    by false = refl
    by true =
        has-same (planted_row v n plants cs) (highest (fold (has_after v n) (map is_some cs) plants))
        ∙ has-highest (fold (has_after v n) (map is_some cs) plants)
        ∙ has-planted (map is_some cs) plants (length cs) (sym (length-map cs is_some)) on
        ∙ sym (has-shown cs)

-- ---- tracks, from the highest down

module _ (v : Medium) (units : ℕ → Tree) (n : ℕ) where
  -- one that has something
  pub has-track : (tracks : List Track) (i : ℕ) (track : Track) → i < length tracks → track ≡ get_or tracks i track → shown_code v units n (drop (i + 1) tracks) ≡ None → true ≡ is_some (row_code v units n track)
      → true ≡ is_some (shown_code v units n tracks)
  has-track tracks i track inside at above is = by (row_code v units n track) refl is where
    by : (c : Option (List Op)) → row_code v units n track ≡ c → true ≡ is_some c → true ≡ is_some (shown_code v units n tracks)
    by None has is = absurd cc
    by (Some ops) has is =
        ap is_some (sym (rows-under v units n tracks i ops (row-more v units n tracks i track inside at ∙ ap (λ o. or_under o (row_code v units n track)) above ∙ has)))

  -- the tracks by themselves, one after another
  pub rows-map : (tracks : List Track) → rows_code v (tracks_of units tracks) n ≡ map (row_code v units n) tracks
  rows-map [] = refl
  rows-map (track ∷ tracks) = ap (λ rows. row_code v units n track ∷ rows) (rows-map tracks)

  -- it is told of one track more
  pub has-more : (tracks : List Track) (has : List Bool) (i : ℕ) (track : Track) (h : Bool) → i < length tracks → track ≡ get_or tracks i track → length has ≡ length tracks
      → take i has ≡ map is_some (rows_code v (tracks_of units (take i tracks)) n) → h ≡ is_some (row_code v units n track)
      → take (i + 1) (set has i h) ≡ map is_some (rows_code v (tracks_of units (take (i + 1) tracks)) n)
  has-more tracks has i track h inside at long told is =
      take_more_set has i h (omega (arith, inside, long))
      ∙ ap (λ hs. hs ++ h ∷ []) (told ∙ ap (map is_some) (rows-map (take i tracks)))
      ∙ ap (λ x. map is_some (map (row_code v units n) (take i tracks)) ++ x ∷ []) is
      ∙ sym (map-append is_some (map (row_code v units n) (take i tracks)) (row_code v units n track ∷ []))
      ∙ ap (map is_some) (sym (map-append (row_code v units n) (take i tracks) (track ∷ [])))
      ∙ ap (λ ts. map is_some (map (row_code v units n) ts)) (ap (λ t. take i tracks ++ t ∷ []) at ∙ sym (take_more tracks i track inside))
      ∙ ap (map is_some) (sym (rows-map (take (i + 1) tracks)))

-- what a unit's own filters leave as it is
pub has-unit : (v : Medium) (tree body : Tree) (filters : List Attached) (n : ℕ) (h : Bool) → tree ≡ With body filters → h ≡ is_some (code v body n) → h ≡ is_some (code v tree n)
has-unit v tree body filters n h step is =
    is ∙ sym (has-same (with_filters n filters) (code v body n)) ∙ ap (λ t. is_some (code v t n)) (sym step)
