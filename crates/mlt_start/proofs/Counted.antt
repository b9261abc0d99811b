-- How many operations a tree has, how many registers they take, and what they name.
use Rattle.std.proofs.Common.{ℕ, ◌≡◌, ◌≢◌, ◌+◌, ◌-◌, ◌<◌, ◌≤◌, Bool, true, false, ◌&&◌, ltb, ltb-false, cond, nat_eq, nat_lt, is_some, IfSome, List, [], ◌∷◌, ◌++◌, length, map, fold, get_or, set, Option, None, Some, All, option_map, refl, sym, ◌∙◌, subst, arith, append_assoc, append-nil, length-append}
use Rattle.std.proofs.lemmas.List.{length-set, length-map}
use Rattle.std.proofs.lemmas.List.Elements.{All-nil, All-cons, All-append, All-contains_itself, Contains-append_left, Contains-append_right}
use Rattle.std.specs.List.{AllByRecursion, flat_map, list_any, Contains}
use Rattle.mlt_frame.specs.declared.op.Op.{Op}
use Rattle.mlt_frame.specs.declared.op.Op.TheVariants.{Load, Absent, Filter, Merge, Keep}
use Rattle.mlt_frame.specs.Fits.{FitsRegisters}
use Rattle.mlt_tree.specs.declared.filter.FilterStep.{FilterStep}
use Rattle.mlt_tree.specs.declared.merge.MergeSpec.{MergeSpec}
use Rattle.mlt_tree.specs.declared.merge.MergeSpec.TheVariants.{Luma, Composite, Matte, Mix, Sum}
use Rattle.mlt_tree.specs.declared.merge.MergeStep.{MergeStep}
use Rattle.mlt_tree.specs.declared.node.Track.{Track as TrackOf}
use Rattle.mlt_tree.specs.declared.tree.Attached.{Attached}
use Rattle.mlt_tree.specs.declared.tree.Plant.{Plant}
use Rattle.mlt_tree.specs.declared.tree.Plant.TheVariants.{OnTrack, Between}
use Rattle.mlt_tree.specs.declared.tree.SourceKind.{SourceKind}
use Rattle.mlt_tree.specs.Acting.{holds, passed, span_frames, filter_step, merge_step}
use Rattle.mlt_tree.specs.Meaning.{shown, or_under}
use Rattle.mlt_tree.specs.Medium.{Medium, makes, hides}
use Rattle.mlt_tree.specs.Merges.{map_of}
use Rattle.mlt_tree.specs.Sizes.{need, need_in, need_of_rows, tracks_in, ops, ops_in, ops_of_rows}
use Rattle.mlt_tree.specs.Sources.{numbered, maps_of_merge, maps_of, sources_in, sources_in_parts, sources_in_tracks, maps_in, maps_in_parts, maps_in_tracks}
use Rattle.mlt_tree.specs.Tree.{Tree, Parts, Tracks, Src, Blank, Part, Seq, With, Rows, End, Then, NoTrack, Track, len}
use Rattle.mlt_tree.specs.Units.{hide_of, track_tree, IsOnTracks}
use Rattle.mlt_start.specs.Code.{merges_at, moves, acts, has_after, ends_in, highest, higher, row_ops, plant_ops, keep_ops, planted_row, planted_rows, code, code_in, rows_code, filter_ops, with_filters, load_of, or_absent}
use Rattle.mlt_start.specs.Found.{row_code}
use Rattle.mlt_frame.specs.Names.{IsSource, NamesOnly, Names}
use Rattle.mlt_start.proofs.Meant.{length-rows}
use Rattle.mlt_start.proofs.Planted.{IsPlanted, ArePlantedParts, ArePlantedTracks}

-- what holds of operations, where there are any
abbrev pub Where : (List Op → Type 0) → Option (List Op) → Type 0
Where P None = Unit {0}
Where P (Some ops) = P ops

module _ (P : List Op → Type 0) where
  pub where-cond : (t : Bool) (x y : Option (List Op)) → Where P x → Where P y → Where P (cond t x y)
  where-cond true x y first second = first
  where-cond false x y first second = second

  pub where-or_under : (x y : Option (List Op)) → Where P x → Where P y → Where P (or_under x y)
  where-or_under None y first second = second
  where-or_under (Some ops) y first second = first

  pub where-map : (Q : List Op → Type 0) (f : List Op → List Op) → ((ops : List Op) → P ops → Q (f ops)) → (x : Option (List Op)) → Where P x → Where Q (option_map f x)
  where-map Q f each None h = tt
  where-map Q f each (Some ops) h = each ops h

  pub where-weaker : (Q : List Op → Type 0) → ((ops : List Op) → P ops → Q ops) → (x : Option (List Op)) → Where P x → Where Q x
  where-weaker Q each None h = tt
  where-weaker Q each (Some ops) h = each ops h

-- ---- rows with plants

-- the row that shows is one of them
pub length-after : (v : Medium) (n : ℕ) (has : List Bool) (plant : Plant) → length (has_after v n has plant) ≡ length has
length-after v n has (OnTrack k spec span) = refl
length-after v n has (Between a b spec span) = by (moves v n has b spec span) where
  by : (t : Bool) → length (cond t (set (set has a true) b false) has) ≡ length has
  by true = simp length-set refl
  by false = refl

pub length-ends : (v : Medium) (n : ℕ) (has : List Bool) (plants : List Plant) → length (fold (has_after v n) has plants) ≡ length has
length-ends v n has [] = refl
length-ends v n has (plant ∷ plants) = length-ends v n (has_after v n has plant) plants ∙ length-after v n has plant

pub highest-inside : (has : List Bool) → IfSome (highest has) (λ k. k < length has)
highest-inside [] = tt
highest-inside (h ∷ has) = by h (highest has) (highest-inside has) where
  by : (h : Bool) (top : Option ℕ) → IfSome top (λ k. k < length has) → IfSome (higher h top) (λ k. k < length (h ∷ has))
  by true None inside = omega arith
  by false None inside = tt
  by true (Some k) inside = omega (arith, inside)
  by false (Some k) inside = omega (arith, inside)

-- what holds of the operations of each row that may show holds of those of the rows, be there plants that act or not
where-rows : (P : List Op → Type 0) (v : Medium) (n : ℕ) (plants : List Plant) (cs : List (Option (List Op))) → ((k : ℕ) → k < length cs → P (planted_row v n plants cs k)) → Where P (shown cs)
    → Where P (cond (list_any (acts v n) plants) (planted_rows v n plants cs) (shown cs))
where-rows P v n plants cs each first =
    where-cond P (list_any (acts v n) plants) (planted_rows v n plants cs) (shown cs) (by (highest after) (highest-inside after)) first where
      after : List Bool
      after = fold (has_after v n) (map is_some cs) plants

      by : (top : Option ℕ) → IfSome top (λ k. k < length after) → Where P (option_map (planted_row v n plants cs) top)
      by None inside = tt
      by (Some k) inside = each k (omega (arith, inside, length-ends v n (map is_some cs) plants, length-map cs is_some))

-- ---- trees take at least one operation and one register

mutual
  pub some-ops : (t : Tree) → IsPlanted t → 1 ≤ ops t
  some-ops (Src source kind frames) is = omega arith
  some-ops (Blank frames) is = omega arith
  some-ops (Part t first last) is = some-ops t is
  some-ops (Seq parts) is = some-ops_in parts
  some-ops (With t filters) is = omega (arith, some-ops t is)
  some-ops (Rows tracks plants) is = omega (arith, some-ops_of tracks is.1 is.0)

  some-ops_in : (parts : Parts) → 1 ≤ ops_in parts
  some-ops_in End = omega arith
  some-ops_in (Then t parts) = omega (arith, some-ops_in parts)

  some-ops_of : (tracks : Tracks) → ArePlantedTracks tracks → 1 ≤ tracks_in tracks → 1 ≤ ops_of_rows tracks
  some-ops_of NoTrack is some = absurd (omega arith)
  some-ops_of (Track t hide tracks) is some = omega (arith, some-ops t is.0)

mutual
  pub some-need : (t : Tree) → IsPlanted t → 1 ≤ need t
  some-need (Src source kind frames) is = omega arith
  some-need (Blank frames) is = omega arith
  some-need (Part t first last) is = some-need t is
  some-need (Seq parts) is = some-need_in parts
  some-need (With t filters) is = some-need t is
  some-need (Rows tracks plants) is = omega (arith, is.0)

  some-need_in : (parts : Parts) → 1 ≤ need_in parts
  some-need_in End = omega arith
  some-need_in (Then t parts) = omega (arith, some-need_in parts)

some-need_of : (tracks : Tracks) → ArePlantedTracks tracks → 1 ≤ tracks_in tracks → 1 ≤ need_of_rows tracks
some-need_of NoTrack is some = absurd (omega arith)
some-need_of (Track t hide tracks) is some = omega (arith, some-need t is.0)

-- ---- how many

abbrev pub Few : ℕ → List Op → Type 0
Few k ops = length ops ≤ k

few-filter : (t : Bool) (step : FilterStep) → length (cond t (Filter 0 step ∷ []) []) ≤ 1
few-filter true step = omega arith
few-filter false step = omega arith

few-filters : (n : ℕ) (filters : List Attached) → length (flat_map (filter_ops n) filters) ≤ length filters
few-filters n [] = omega arith
few-filters n (f ∷ filters) =
    omega (arith, length-append (filter_ops n f) (flat_map (filter_ops n) filters), few-filter (holds f.span n) (filter_step f.spec (passed f.span n)), few-filters n filters)

few-more : (k l : ℕ) → k ≤ l → (ops : List Op) → Few k ops → Few l ops
few-more k l h ops few = omega (arith, few, h)

few-one : (t : Bool) (op : Op) → length (cond t (op ∷ []) []) ≤ 1
few-one true op = omega arith
few-one false op = omega arith

few-plant : (v : Medium) (n count : ℕ) (plant : Plant) → length (plant_ops v n count plant) ≤ 1
few-plant v n count (OnTrack k spec span) = few-one (holds span n) (Filter (count - 1 - k) (filter_step spec (passed span n)))
few-plant v n count (Between a b spec span) = few-one (merges_at v n spec span) (Merge (count - 1 - a) (count - 1 - b) (merge_step spec (passed span n) (span_frames span)))

pub few-plants : (v : Medium) (n count : ℕ) (plants : List Plant) → length (flat_map (plant_ops v n count) plants) ≤ length plants
few-plants v n count [] = omega arith
few-plants v n count (plant ∷ plants) =
    omega (arith, length-append (plant_ops v n count plant) (flat_map (plant_ops v n count) plants), few-plant v n count plant, few-plants v n count plants)

pub few-keep : (count row : ℕ) → length (keep_ops count row) ≤ cond (nat_lt 1 count) 1 0
few-keep count row = by (nat_lt 1 count) where
  by : (t : Bool) → length (cond t (Keep row count ∷ []) []) ≤ cond t 1 0
  by true = omega arith
  by false = omega arith

few-row : (w : Bool) (k : ℕ) (c : Option (List Op)) → 1 ≤ k → Where (Few k) c → length (cond w (or_absent c) (Absent ∷ [])) ≤ k
few-row false k c some few = some
few-row true k None some few = some
few-row true k (Some ops) some few = few

mutual
  pub code-few : (v : Medium) (t : Tree) → IsPlanted t → (n : ℕ) → Where (Few (ops t)) (code v t n)
  code-few v (Src source kind frames) is n = where-cond (Few 1) (makes v kind && ltb n frames) (Some (load_of source n ∷ [])) None (omega arith) tt
  code-few v (Blank frames) is n = tt
  code-few v (Part t first last) is n = where-cond (Few (ops t)) (ltb n (last + 1 - first)) (code v t (first + n)) None (code-few v t is (first + n)) tt
  code-few v (Seq parts) is n = code_in-few v parts is n
  code-few v (With t filters) is n =
      where-map (Few (ops t)) (Few (ops t + length filters)) (with_filters n filters) (λ ops few. omega (arith, few, length-append ops (flat_map (filter_ops n) filters), few-filters n filters)) (code v t n) (code-few v t is n)
  code-few v (Rows tracks plants) is n =
      let cs : List (Option (List Op)) = rows_code v tracks n in
      let long : length cs ≡ tracks_in tracks = length-rows v tracks n in
      let all = few-plants v n (length cs) plants in
      where-rows (Few (ops (Rows tracks plants))) v n plants cs
      (λ k inside.
      let wanted : ℕ → Bool = λ j. nat_eq (ends_in v n (map is_some cs) plants j) k in
      let act : List Op = flat_map (plant_ops v n (length cs)) plants in
      let keep : length (keep_ops (length cs) k) ≤ cond (nat_lt 1 (tracks_in tracks)) 1 0 = subst (λ l. length (keep_ops (length cs) k) ≤ cond (nat_lt 1 l) 1 0) long (few-keep (length cs) k) in
      omega (arith, length-append (row_ops wanted 0 cs) (act ++ keep_ops (length cs) k), length-append act (keep_ops (length cs) k), row_ops-few v wanted 0 tracks is.1 n, all, keep))
      (where-weaker (Few (ops_of_rows tracks)) (Few (ops (Rows tracks plants))) (few-more (ops_of_rows tracks) (ops (Rows tracks plants)) (omega arith)) (shown cs) (rows-few v tracks is.1 n))

  pub code_in-few : (v : Medium) (parts : Parts) → ArePlantedParts parts → (n : ℕ) → Where (Few (ops_in parts)) (code_in v parts n)
  code_in-few v End is n = tt
  code_in-few v (Then t parts) is n =
      let k = ops_in (Then t parts) in
      where-cond (Few k) (ltb n (len t)) (code v t n) (code_in v parts (n - len t))
      (where-weaker (Few (ops t)) (Few k) (few-more (ops t) k (omega arith)) (code v t n) (code-few v t is.0 n))
      (where-weaker (Few (ops_in parts)) (Few k) (few-more (ops_in parts) k (omega arith)) (code_in v parts (n - len t)) (code_in-few v parts is.1 (n - len t)))

  rows-few : (v : Medium) (tracks : Tracks) → ArePlantedTracks tracks → (n : ℕ) → Where (Few (ops_of_rows tracks)) (shown (rows_code v tracks n))
  rows-few v NoTrack is n = tt
  rows-few v (Track t hide tracks) is n =
      let k = ops_of_rows (Track t hide tracks) in
      where-or_under (Few k) (shown (rows_code v tracks n)) (cond (hides v hide) None (code v t n))
      (where-weaker (Few (ops_of_rows tracks)) (Few k) (few-more (ops_of_rows tracks) k (omega arith)) (shown (rows_code v tracks n)) (rows-few v tracks is.1 n))
      (where-cond (Few k) (hides v hide) None (code v t n) tt (where-weaker (Few (ops t)) (Few k) (few-more (ops t) k (omega arith)) (code v t n) (code-few v t is.0 n)))

  pub row_ops-few : (v : Medium) (wanted : ℕ → Bool) (from : ℕ) (tracks : Tracks) → ArePlantedTracks tracks → (n : ℕ) → length (row_ops wanted from (rows_code v tracks n)) ≤ ops_of_rows tracks
  row_ops-few v wanted from NoTrack is n = omega arith
  row_ops-few v wanted from (Track t hide tracks) is n =
      let c : Option (List Op) = cond (hides v hide) None (code v t n) in
      omega (
        arith,
        length-append (cond (wanted from) (or_absent c) (Absent ∷ [])) (row_ops wanted (from + 1) (rows_code v tracks n)),
        few-row (wanted from) (ops t) c (some-ops t is.0) (where-cond (Few (ops t)) (hides v hide) None (code v t n) tt (code-few v t is.0 n)),
        row_ops-few v wanted (from + 1) tracks is.1 n,
      )

-- of one track, be it wanted or not
pub row_code-few : (v : Medium) (units : ℕ → Tree) (track : TrackOf) → IsPlanted (track_tree units track) → (n : ℕ) (w : Bool) → length (cond w (or_absent (row_code v units n track)) (Absent ∷ [])) ≤ ops (track_tree units track)
row_code-few v units track is n w =
    let t = track_tree units track in
    few-row w (ops t) (row_code v units n track) (some-ops t is) (where-cond (Few (ops t)) (hides v (hide_of track)) None (code v t n) tt (code-few v t is n))

-- ---- how many registers

-- they add one register to b, of k
abbrev pub Takes : (k b : ℕ) → List Op → Type 0
Takes k b ops = (more : List Op) → FitsRegisters k (b + 1) more → FitsRegisters k b (ops ++ more)

room-left : (k b : ℕ) (ops : List Op) → FitsRegisters k b ops → b ≤ k
room-left k b [] h = h.1
room-left k b (Load source at ∷ ops) h = h.1
room-left k b (Absent ∷ ops) h = h.1
room-left k b (Filter depth step ∷ ops) h = h.1
room-left k b (Merge a c step ∷ ops) h = omega (arith, h.1)
room-left k b (Keep row count ∷ ops) h = h.1

filter-takes : (k n depth : ℕ) (t : Bool) (step : FilterStep) (more : List Op) → depth < n → FitsRegisters k n more → FitsRegisters k n (cond t (Filter depth step ∷ []) [] ++ more)
filter-takes k n depth true step more inside h = (inside, room-left k n more h, h)
filter-takes k n depth false step more inside h = h

filters-take : (k b n : ℕ) (filters : List Attached) (more : List Op) → FitsRegisters k (b + 1) more → FitsRegisters k (b + 1) (flat_map (filter_ops n) filters ++ more)
filters-take k b n [] more h = h
filters-take k b n (f ∷ filters) more h =
    subst (FitsRegisters k (b + 1)) (sym (append_assoc (filter_ops n f) (flat_map (filter_ops n) filters) more)) (filter-takes k (b + 1) 0 (holds f.span n) (filter_step f.spec (passed f.span n)) (flat_map (filter_ops n) filters ++ more) (omega arith) (filters-take k b n filters more h))

with_filters-take : (k b n : ℕ) (filters : List Attached) (ops : List Op) → Takes k b ops → Takes k b (with_filters n filters ops)
with_filters-take k b n filters ops takes more h =
    subst (FitsRegisters k b) (sym (append_assoc ops (flat_map (filter_ops n) filters) more)) (takes (flat_map (filter_ops n) filters ++ more) (filters-take k b n filters more h))

-- plants leave as many
merge-takes : (k n i j : ℕ) (t : Bool) (step : MergeStep) (more : List Op) → i < n → j < n → i ≢ j → n < k → FitsRegisters k n more → FitsRegisters k n (cond t (Merge i j step ∷ []) [] ++ more)
merge-takes k n i j true step more first second apart room h = ((first, second, apart), room, h)
merge-takes k n i j false step more first second apart room h = h

plant-takes : (v : Medium) (n k l count : ℕ) (plant : Plant) (more : List Op) → count ≤ l → l < k → IsOnTracks count plant → FitsRegisters k l more → FitsRegisters k l (plant_ops v n count plant ++ more)
plant-takes v n k l count (OnTrack track spec span) more all room on h =
    filter-takes k l (count - 1 - track) (holds span n) (filter_step spec (passed span n)) more (omega (arith, all, on)) h
plant-takes v n k l count (Between a b spec span) more all room on h =
    merge-takes k l (count - 1 - a) (count - 1 - b) (merges_at v n spec span) (merge_step spec (passed span n) (span_frames span)) more
    (omega (arith, all, on.0)) (omega (arith, all, on.1)) (λ same. on.2 (omega (arith, on.0, on.1, same))) room h

plants-take : (v : Medium) (n k l count : ℕ) (plants : List Plant) (more : List Op) → count ≤ l → l < k → AllByRecursion (IsOnTracks count) plants → FitsRegisters k l more → FitsRegisters k l (flat_map (plant_ops v n count) plants ++ more)
plants-take v n k l count [] more all room on h = h
plants-take v n k l count (plant ∷ plants) more all room on h =
    subst (FitsRegisters k l) (sym (append_assoc (plant_ops v n count plant) (flat_map (plant_ops v n count) plants) more))
    (plant-takes v n k l count plant (flat_map (plant_ops v n count) plants ++ more) all room on.0 (plants-take v n k l count plants more all room on.1 h))

-- of so many that were added one stays
keep-takes : (k b l count row : ℕ) (more : List Op) → l ≡ b + count → l ≤ k → row < count → FitsRegisters k (b + 1) more → FitsRegisters k l (keep_ops count row ++ more)
keep-takes k b l count row more is room inside h = by (ltb 1 count) refl where
  by : (t : Bool) → ltb 1 count ≡ t → FitsRegisters k l (cond t (Keep row count ∷ []) [] ++ more)
  by true test =
      let left : b + 1 ≡ l - count + 1 = omega (arith, is) in
      ((inside, omega (arith, is)), room, subst (λ m. FitsRegisters k m more) left h)
  by false test =
      let left : b + 1 ≡ l = omega (arith, is, inside, ltb-false 1 count test) in
      subst (λ m. FitsRegisters k m more) left h

-- a row adds one register
row-takes : (w : Bool) (k b : ℕ) (c : Option (List Op)) → b ≤ k → Where (Takes k b) c → Takes k b (cond w (or_absent c) (Absent ∷ []))
row-takes false k b c room takes more h = (tt, room, h)
row-takes true k b None room takes more h = (tt, room, h)
row-takes true k b (Some ops) room takes more h = takes more h

mutual
  code-takes : (v : Medium) (k b : ℕ) (t : Tree) → IsPlanted t → (n : ℕ) → b + need t ≤ k → Where (Takes k b) (code v t n)
  code-takes v k b (Src source kind frames) is n h = where-cond (Takes k b) (makes v kind && ltb n frames) (Some (load_of source n ∷ [])) None (λ more fits. (tt, omega (arith, h), fits)) tt
  code-takes v k b (Blank frames) is n h = tt
  code-takes v k b (Part t first last) is n h = where-cond (Takes k b) (ltb n (last + 1 - first)) (code v t (first + n)) None (code-takes v k b t is (first + n) h) tt
  code-takes v k b (Seq parts) is n h = code_in-takes v k b parts is n h
  code-takes v k b (With t filters) is n h = where-map (Takes k b) (Takes k b) (with_filters n filters) (with_filters-take k b n filters) (code v t n) (code-takes v k b t is n h)
  code-takes v k b (Rows tracks plants) is n h =
      let cs : List (Option (List Op)) = rows_code v tracks n in
      let long : length cs ≡ tracks_in tracks = length-rows v tracks n in
      let some = some-need_of tracks is.1 is.0 in
      let on = subst (λ l. AllByRecursion (IsOnTracks l) plants) (sym long) is.2 in
      where-rows (Takes k b) v n plants cs
      (λ row inside more fits.
      let wanted : ℕ → Bool = λ j. nat_eq (ends_in v n (map is_some cs) plants j) row in
      let act : List Op = flat_map (plant_ops v n (length cs)) plants in
      let keep : List Op = keep_ops (length cs) row in
      let l : ℕ = b + length cs in
      subst (FitsRegisters k b) (sym (append_assoc (row_ops wanted 0 cs) (act ++ keep) more))
      (row_ops-take v k b l wanted 0 tracks is.1 n ((act ++ keep) ++ more) (omega (arith, long)) (omega (arith, h)) (subst (FitsRegisters k l) (sym (append_assoc act keep more))
      (plants-take v n k l (length cs) plants (keep ++ more) (omega arith) (omega (arith, h, some, long)) on
      (keep-takes k b l (length cs) row more refl (omega (arith, h, long)) inside fits)))))
      (rows-take v k b tracks is.1 n (omega (arith, h)))

  code_in-takes : (v : Medium) (k b : ℕ) (parts : Parts) → ArePlantedParts parts → (n : ℕ) → b + need_in parts ≤ k → Where (Takes k b) (code_in v parts n)
  code_in-takes v k b End is n h = tt
  code_in-takes v k b (Then t parts) is n h =
      where-cond (Takes k b) (ltb n (len t)) (code v t n) (code_in v parts (n - len t)) (code-takes v k b t is.0 n (omega (arith, h))) (code_in-takes v k b parts is.1 (n - len t) (omega (arith, h)))

  rows-take : (v : Medium) (k b : ℕ) (tracks : Tracks) → ArePlantedTracks tracks → (n : ℕ) → b + need_of_rows tracks ≤ k → Where (Takes k b) (shown (rows_code v tracks n))
  rows-take v k b NoTrack is n h = tt
  rows-take v k b (Track t hide tracks) is n h =
      where-or_under (Takes k b) (shown (rows_code v tracks n)) (cond (hides v hide) None (code v t n)) (rows-take v k b tracks is.1 n (omega (arith, h)))
      (where-cond (Takes k b) (hides v hide) None (code v t n) tt (code-takes v k b t is.0 n (omega (arith, h))))

  row_ops-take : (v : Medium) (k b l : ℕ) (wanted : ℕ → Bool) (from : ℕ) (tracks : Tracks) → ArePlantedTracks tracks → (n : ℕ) (more : List Op) → l ≡ b + tracks_in tracks → b + (tracks_in tracks + need_of_rows tracks) ≤ k
      → FitsRegisters k l more → FitsRegisters k b (row_ops wanted from (rows_code v tracks n) ++ more)
  row_ops-take v k b l wanted from NoTrack is n more e h fits = let none : l ≡ b = omega (arith, e) in subst (λ m. FitsRegisters k m more) none fits
  row_ops-take v k b l wanted from (Track t hide tracks) is n more e h fits =
      let c : Option (List Op) = cond (hides v hide) None (code v t n) in
      let rest : List Op = row_ops wanted (from + 1) (rows_code v tracks n) in
      subst (FitsRegisters k b) (sym (append_assoc (cond (wanted from) (or_absent c) (Absent ∷ [])) rest more))
      (row-takes (wanted from) k b c (omega (arith, h)) (where-cond (Takes k b) (hides v hide) None (code v t n) tt (code-takes v k b t is.0 n (omega (arith, h)))) (rest ++ more)
      (row_ops-take v k (b + 1) l wanted (from + 1) tracks is.1 n more (omega (arith, e)) (omega (arith, h)) fits))

-- ---- with something or not

filled-few : (k : ℕ) (c : Option (List Op)) → 1 ≤ k → Where (Few k) c → length (or_absent c) ≤ k
filled-few k None some h = some
filled-few k (Some ops) some h = h

pub or_absent-few : (v : Medium) (t : Tree) → IsPlanted t → (n : ℕ) → length (or_absent (code v t n)) ≤ ops t
or_absent-few v t is n = filled-few (ops t) (code v t n) (some-ops t is) (code-few v t is n)

filled-fits : (k : ℕ) (c : Option (List Op)) → 1 ≤ k → Where (Takes k 0) c → FitsRegisters k 0 (or_absent c)
filled-fits k None some h = (tt, omega arith, (refl, some))
filled-fits k (Some ops) some h = subst (FitsRegisters k 0) (append-nil ops) (h [] (refl, some))

pub or_absent-fits : (v : Medium) (t : Tree) → IsPlanted t → (n : ℕ) → FitsRegisters (need t) 0 (or_absent (code v t n))
or_absent-fits v t is n = filled-fits (need t) (code v t n) (some-need t is) (code-takes v (need t) 0 t is n (omega arith))

-- ---- what holds of each operation

-- what holds of the operations of each row that has something
abbrev pub EachWhere : (List Op → Type 0) → List (Option (List Op)) → Type 0
EachWhere P [] = Unit {0}
EachWhere P (c ∷ cs) = Where P c × EachWhere P cs

pub where-shown : (P : List Op → Type 0) (cs : List (Option (List Op))) → EachWhere P cs → Where P (shown cs)
where-shown P [] each = tt
where-shown P (c ∷ cs) each = where-or_under P (shown cs) c (where-shown P cs each.1) each.0

module _ (P : Op → Type 0) (absent : P Absent) (keep : (row count : ℕ) → P (Keep row count)) where
  one-all : (t : Bool) (op : Op) → P op → All P (cond t (op ∷ []) [])
  one-all true op h = All-cons P op [] h (All-nil P)
  one-all false op h = All-nil P

  row-all : (w : Bool) (c : Option (List Op)) → Where (All P) c → All P (cond w (or_absent c) (Absent ∷ []))
  row-all false c h = All-cons P Absent [] absent (All-nil P)
  row-all true None h = All-cons P Absent [] absent (All-nil P)
  row-all true (Some ops) h = h

  row_ops-all : (wanted : ℕ → Bool) (from : ℕ) (cs : List (Option (List Op))) → EachWhere (All P) cs → All P (row_ops wanted from cs)
  row_ops-all wanted from [] each = All-nil P
  row_ops-all wanted from (c ∷ cs) each =
      All-append P (cond (wanted from) (or_absent c) (Absent ∷ [])) (row_ops wanted (from + 1) cs) (row-all (wanted from) c each.0) (row_ops-all wanted (from + 1) cs each.1)

  module _ (v : Medium) (n : ℕ) where
    plants-all : (count : ℕ) (plants : List Plant) → AllByRecursion (λ plant. (count : ℕ) → All P (plant_ops v n count plant)) plants → All P (flat_map (plant_ops v n count) plants)
    plants-all count [] each = All-nil P
    plants-all count (plant ∷ plants) each =
        All-append P (plant_ops v n count plant) (flat_map (plant_ops v n count) plants) (each.0 count) (plants-all count plants each.1)

    -- of rows it holds too, where it holds of the operations of plants
    pub rows-all : (cs : List (Option (List Op))) (plants : List Plant) → EachWhere (All P) cs → AllByRecursion (λ plant. (count : ℕ) → All P (plant_ops v n count plant)) plants
        → Where (All P) (cond (list_any (acts v n) plants) (planted_rows v n plants cs) (shown cs))
    rows-all cs plants each planted =
        where-rows (All P) v n plants cs
        (λ row inside.
        let wanted : ℕ → Bool = λ j. nat_eq (ends_in v n (map is_some cs) plants j) row in
        let act : List Op = flat_map (plant_ops v n (length cs)) plants in
        let last : List Op = keep_ops (length cs) row in
        All-append P (row_ops wanted 0 cs) (act ++ last) (row_ops-all wanted 0 cs each) (All-append P act last (plants-all (length cs) plants planted) (one-all (nat_lt 1 (length cs)) (Keep row (length cs)) (keep row (length cs)))))
        (where-shown (All P) cs each)

-- ---- what they name

-- a merge names the map of what is planted
maps_of-step : (spec : MergeSpec) (p frames : ℕ) → maps_of_merge spec ≡ numbered (map_of (merge_step spec p frames))
maps_of-step (Luma map softness) p frames = refl
maps_of-step (Composite geometry) p frames = refl
maps_of-step Matte p frames = refl
maps_of-step Mix p frames = refl
maps_of-step Sum p frames = refl

module _ (sources maps : ℕ → Type 0) where
  abbrev Named : List Op → Type 0
  Named ops = All (NamesOnly sources maps) ops

  filter-named : (t : Bool) (step : FilterStep) → Named (cond t (Filter 0 step ∷ []) [])
  filter-named true step = All-cons (NamesOnly sources maps) (Filter 0 step) [] tt (All-nil (NamesOnly sources maps))
  filter-named false step = All-nil (NamesOnly sources maps)

  filters-named : (n : ℕ) (filters : List Attached) → Named (flat_map (filter_ops n) filters)
  filters-named n [] = All-nil (NamesOnly sources maps)
  filters-named n (f ∷ filters) =
      All-append (NamesOnly sources maps) (filter_ops n f) (flat_map (filter_ops n) filters) (filter-named (holds f.span n) (filter_step f.spec (passed f.span n))) (filters-named n filters)

  source-named : (t u : Bool) (source n : ℕ) → (t ≡ true → sources source) → Where Named (cond (t && u) (Some (load_of source n ∷ [])) None)
  source-named true true source n h = All-cons (NamesOnly sources maps) (load_of source n) [] (h refl) (All-nil (NamesOnly sources maps))
  source-named true false source n h = tt
  source-named false u source n h = tt

  -- the sources of a list that give the medium are among these
  abbrev AreAmong : Medium → List (ℕ × SourceKind) → Type 0
  AreAmong v list = (source : ℕ) (kind : SourceKind) → Contains list (source, kind) → makes v kind ≡ true → sources source

  -- and so are the maps of a list
  abbrev AreMaps : List ℕ → Type 0
  AreMaps list = (map : ℕ) → Contains list map → maps map

  plant-named : (v : Medium) (n : ℕ) (plant : Plant) → AreMaps (maps_of plant) → (count : ℕ) → Named (plant_ops v n count plant)
  plant-named v n (OnTrack k spec span) h count =
      one-all (NamesOnly sources maps) tt (λ row count. tt) (holds span n) (Filter (count - 1 - k) (filter_step spec (passed span n))) tt
  plant-named v n (Between a b spec span) h count =
      let step : MergeStep = merge_step spec (passed span n) (span_frames span) in
      one-all (NamesOnly sources maps) tt (λ row count. tt) (merges_at v n spec span) (Merge (count - 1 - a) (count - 1 - b) step)
      (subst (All maps) (maps_of-step spec (passed span n) (span_frames span)) (λ k d inside. h (get_or (maps_of_merge spec) k d) (All-contains_itself (maps_of_merge spec) k d inside)))

  plants-named : (v : Medium) (n : ℕ) (plants : List Plant) → AreMaps (flat_map maps_of plants) → AllByRecursion (λ plant. (count : ℕ) → Named (plant_ops v n count plant)) plants
  plants-named v n [] h = tt
  plants-named v n (plant ∷ plants) h =
      (plant-named v n plant (λ k there. h k (Contains-append_left (maps_of plant) (flat_map maps_of plants) k there)), plants-named v n plants (λ k there. h k (Contains-append_right (maps_of plant) (flat_map maps_of plants) k there)))

  mutual
    code-named : (v : Medium) (t : Tree) (n : ℕ) → AreAmong v (sources_in t) → AreMaps (maps_in t) → Where Named (code v t n)
    code-named v (Src source kind frames) n h l =
        source-named (makes v kind) (ltb n frames) source n (λ gives. h source kind (0, omega arith, refl) gives)
    code-named v (Blank frames) n h l = tt
    code-named v (Part t first last) n h l = where-cond Named (ltb n (last + 1 - first)) (code v t (first + n)) None (code-named v t (first + n) h l) tt
    code-named v (Seq parts) n h l = code_in-named v parts n h l
    code-named v (With t filters) n h l =
        where-map Named Named (with_filters n filters) (λ ops named. All-append (NamesOnly sources maps) ops (flat_map (filter_ops n) filters) named (filters-named n filters)) (code v t n) (code-named v t n h l)
    code-named v (Rows tracks plants) n h l =
        rows-all (NamesOnly sources maps) tt (λ row count. tt) v n (rows_code v tracks n) plants
        (rows-named v tracks n h (λ k there. l k (Contains-append_left (maps_in_tracks tracks) (flat_map maps_of plants) k there)))
        (plants-named v n plants (λ k there. l k (Contains-append_right (maps_in_tracks tracks) (flat_map maps_of plants) k there)))

    code_in-named : (v : Medium) (parts : Parts) (n : ℕ) → AreAmong v (sources_in_parts parts) → AreMaps (maps_in_parts parts) → Where Named (code_in v parts n)
    code_in-named v End n h l = tt
    code_in-named v (Then t parts) n h l =
        where-cond Named (ltb n (len t)) (code v t n) (code_in v parts (n - len t))
        (code-named v t n (λ s k there. h s k (Contains-append_left (sources_in t) (sources_in_parts parts) (s, k) there)) (λ k there. l k (Contains-append_left (maps_in t) (maps_in_parts parts) k there)))
        (code_in-named v parts (n - len t) (λ s k there. h s k (Contains-append_right (sources_in t) (sources_in_parts parts) (s, k) there)) (λ k there. l k (Contains-append_right (maps_in t) (maps_in_parts parts) k there)))

    rows-named : (v : Medium) (tracks : Tracks) (n : ℕ) → AreAmong v (sources_in_tracks tracks) → AreMaps (maps_in_tracks tracks) → EachWhere Named (rows_code v tracks n)
    rows-named v NoTrack n h l = tt
    rows-named v (Track t hide tracks) n h l = (
      where-cond Named (hides v hide) None (code v t n) tt (code-named v t n (λ s k there. h s k (Contains-append_left (sources_in t) (sources_in_tracks tracks) (s, k) there)) (λ k there. l k (Contains-append_left (maps_in t) (maps_in_tracks tracks) k there))),
      rows-named v tracks n (λ s k there. h s k (Contains-append_right (sources_in t) (sources_in_tracks tracks) (s, k) there)) (λ k there. l k (Contains-append_right (maps_in t) (maps_in_tracks tracks) k there)),
    )

-- what holds of nothing and of what there is
pub filled-named : (P : Op → Type 0) (c : Option (List Op)) → P Absent → Where (All P) c → All P (or_absent c)
filled-named P None absent h = All-cons P Absent [] absent (All-nil P)
filled-named P (Some ops) absent h = h

pub or_absent-named : (v : Medium) (t : Tree) (n : ℕ) → All (Names v t) (or_absent (code v t n))
or_absent-named v t n =
    filled-named (Names v t) (code v t n) tt (code-named (IsSource v t) (Contains (maps_in t)) v t n (λ s k there gives. (k, gives, there)) (λ k there. there))
