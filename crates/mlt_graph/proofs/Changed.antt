-- A unit of a graph has one filter or one merge more: all else that is known of the graph stays as it is.
use Rattle.std.proofs.Common.{◌^◌, ◌≡◌, ℕ, ◌<◌, ◌≢◌, Bool, true, false, eqb, List, [], ◌∷◌, ◌++◌, length, get_or, set, map, fold, refl, sym, ap, ◌∙◌, subst, arith}
use Rattle.std.proofs.Math.Seq.{map-set_same}
use Rattle.std.proofs.lemmas.Bool.Decides.{nat_tests}
use Rattle.std.proofs.lemmas.List.{get_or_default, get_or-set_same, get_or-set_other, length-set}
use Rattle.std.proofs.lemmas.List.Elements.{All-push, All-set, recursion_from_All}
use Rattle.std.proofs.lemmas.List.Folds.{fold-map}
use Rattle.std.specs.List.{All}
use Rattle.mlt_tree.specs.declared.entry.Entry.{Entry}
use Rattle.mlt_tree.specs.declared.entry.Entry.TheVariants.{Clip, Gap}
use Rattle.mlt_tree.specs.declared.node.Body.{Body}
use Rattle.mlt_tree.specs.declared.node.Body.TheVariants.{Source, Entries, Tractor}
use Rattle.mlt_tree.specs.declared.node.Node.{Node}
use Rattle.mlt_tree.specs.declared.node.Track.{Track as TrackOf}
use Rattle.mlt_tree.specs.declared.node.Track.TheVariants.{Playlist, Half}
use Rattle.mlt_tree.specs.declared.merge.MergeSpec.{MergeSpec}
use Rattle.mlt_tree.specs.declared.tree.Plant.{Plant}
use Rattle.mlt_tree.specs.declared.tree.Attached.{Attached}
use Rattle.mlt_tree.specs.Ranges.{IsAttached, IsMerge, IsPlant}
use Rattle.mlt_tree.specs.Sizes.{need, need_in, need_of_rows}
use Rattle.mlt_tree.specs.Tree.{Tree, Blank, len, len_in, longest}
use Rattle.mlt_tree.specs.Units.{list_unit, parts_of, track_tree, tracks_of, body_tree, node_tree, nth_tree, tree_of, with_filter, with_unit_filter, mixer, mix_frames, planted_more, with_merge, body_depth, depth_of, IsOnTracks, IsBodyBelow, IsGraph, IsMixOf}
use Rattle.mlt_graph.specs.Graph.{HasFewTracks, IsBuilt, IsSized}
use Rattle.mlt_graph.specs.Lists.{starts_in}
use Rattle.mlt_graph.specs.Sizes.{kept, size_of}
use Rattle.mlt_graph.specs.declared.size.Size.{Size}
use Rattle.mlt_graph.specs.declared.weight.Weight.{Weight}
use Rattle.mlt_graph.proofs.Bounds.{tracks_in-of}
use Rattle.mlt_graph.proofs.SizeLemmas.{same_size}
use Rattle.mlt_graph.proofs.Trees.{R-grown}

-- ---- filters and plants change neither the length, nor the need, nor the depth

-- what a unit is made of, without what is planted
abbrev bare_body : Body → Body
bare_body (Source source kind frames) = Source source kind frames
bare_body (Entries entries) = Entries entries
bare_body (Tractor tracks plants) = Tractor tracks []

-- trees of the same length and need
record IsAlike (t t' : Tree) : Type 0 where
  length : len t ≡ len t'
  need : need t ≡ need t'

module _ (f g : ℕ → Tree) (alike : (k : ℕ) → IsAlike (f k) (g k)) where
  parts-length : (es : List Entry) → len_in (parts_of f es) ≡ len_in (parts_of g es)
  parts-length [] = refl
  parts-length (Clip unit span filters ∷ es) = omega (arith, parts-length es)
  parts-length (Gap frames ∷ es) = omega (arith, parts-length es)

  parts-need : (es : List Entry) → need_in (parts_of f es) ≡ need_in (parts_of g es)
  parts-need [] = refl
  parts-need (Clip unit span filters ∷ es) = omega (arith, (alike unit.0).need, parts-need es)
  parts-need (Gap frames ∷ es) = omega (arith, parts-need es)

  track-alike : (track : TrackOf) → IsAlike (track_tree f track) (track_tree g track)
  track-alike (Playlist entries filters hide) = record { length = parts-length entries; need = parts-need entries }
  track-alike (Half (Clip unit span filters) frames) = record { length = refl; need = (alike unit.0).need }
  track-alike (Half (Gap gap) frames) = record { length = refl; need = refl }

  tracks-length : (tracks : List TrackOf) → longest (tracks_of f tracks) ≡ longest (tracks_of g tracks)
  tracks-length [] = refl
  tracks-length (track ∷ tracks) = omega (arith, (track-alike track).length, tracks-length tracks)

  tracks-need : (tracks : List TrackOf) → need_of_rows (tracks_of f tracks) ≡ need_of_rows (tracks_of g tracks)
  tracks-need [] = refl
  tracks-need (track ∷ tracks) = omega (arith, (track-alike track).need, tracks-need tracks)

  bare-alike : (body : Body) → IsAlike (body_tree f body) (body_tree g (bare_body body))
  bare-alike (Source source kind frames) = record { length = refl; need = refl }
  bare-alike (Entries entries) = record { length = parts-length entries; need = parts-need entries }
  bare-alike (Tractor tracks plants) = record {
    length = tracks-length tracks;
    need = omega (arith, tracks_in-of f tracks, tracks_in-of g tracks, tracks-need tracks);
  }

-- a unit without its filters
abbrev bare : Node → Node
bare u = record { body = bare_body u.body; filters = [] }

abbrev bare_tree : (ℕ → Tree) → Node → Tree
bare_tree units u = node_tree units (bare u)

alike-bare : (us : List Node) (k : ℕ) → IsAlike (tree_of us k) (tree_of (map bare us) k)
alike-bare us k =
    subst (λ ts. IsAlike (tree_of us k) (nth_tree ts k)) (sym (fold-map (λ so_far u. so_far ++ node_tree (nth_tree so_far) u ∷ []) bare [] us))
    (R-grown (Blank 0) node_tree (Blank 0) bare_tree (λ u. Unit {0}) IsAlike us (recursion_from_All (λ u. Unit {0}) us (λ i d below. tt))
    (λ f g u fits alike. let body = bare-alike f g alike u.body in record { length = body.length; need = body.need })
    [] [] refl (λ j. record { length = refl; need = refl }) k)

-- functions that do the same to each give the same of all
fold-same : {A B : Type 0} (f g : B → A → B) → ((b : B) (x : A) → f b x ≡ g b x) → (b : B) (xs : List A) → fold f b xs ≡ fold g b xs
fold-same f g same b [] = refl
fold-same f g same b (x ∷ xs) = ap (λ first. fold f first xs) (same b x) ∙ fold-same f g same (g b x) xs

bare-depth : (depths : ℕ → ℕ) (body : Body) → body_depth depths (bare_body body) ≡ body_depth depths body
bare-depth depths (Source source kind frames) = refl
bare-depth depths (Entries entries) = refl
bare-depth depths (Tractor tracks plants) = refl

depth-bare : (us : List Node) (k : ℕ) → depth_of (map bare us) k ≡ depth_of us k
depth-bare us k =
    ap (λ ds. get_or ds k 0)
    (fold-map (λ so_far u. so_far ++ body_depth (λ unit. get_or so_far unit 0) u.body ∷ []) bare [] us
    ∙ fold-same (λ so_far (u : Node). so_far ++ body_depth (λ unit. get_or so_far unit 0) (bare_body u.body) ∷ []) (λ so_far u. so_far ++ body_depth (λ unit. get_or so_far unit 0) u.body ∷ [])
    (λ so_far u. ap (λ d. so_far ++ d ∷ []) (bare-depth (λ unit. get_or so_far unit 0) u.body)) [] us)

-- nor which lists there are
bare-starts : (body : Body) → starts_in (bare_body body) ≡ starts_in body
bare-starts (Source source kind frames) = refl
bare-starts (Entries entries) = refl
bare-starts (Tractor tracks plants) = refl

few-with : (body : Body) → HasFewTracks (bare_body body) → HasFewTracks body
few-with (Source source kind frames) few = tt
few-with (Entries entries) few = tt
few-with (Tractor tracks plants) few = few

few-bare : (body : Body) → HasFewTracks body → HasFewTracks (bare_body body)
few-bare (Source source kind frames) few = tt
few-bare (Entries entries) few = tt
few-bare (Tractor tracks plants) few = few

-- ---- one unit is another, with the same body but for its filters and plants

-- what holds of the units, and of a new one at its place, holds of all
each-set : {X : Type 0} (P : ℕ → X → Type 0) (xs : List X) (i : ℕ) (x : X) → i < length xs → ((k : ℕ) (y : X) → k < length xs → y ≡ get_or xs k y → P k y) → P i x
    → (k : ℕ) (y : X) → k < length (set xs i x) → y ≡ get_or (set xs i x) k y → P k y
each-set P xs i x there old new k y within at = by (eqb k i) refl
  where
    by : (b : Bool) → eqb k i ≡ b → P k y
    by true same =
        let here : i ≡ k = grind (arith, nat_tests) in
        let is : x ≡ y = sym (at ∙ ap (λ n. get_or (set xs i x) n y) (sym here) ∙ get_or-set_same xs i x y there) in
        subst (P k) is (subst (λ (n : ℕ). P n x) here new)
    by false other =
        let elsewhere : k ≢ i = grind (arith, nat_tests) in
        old k y (omega (arith, length-set xs i x)) (at ∙ get_or-set_other xs i k x y elsewhere)

module _ (us : List Node) (unit : ℕ) (new_unit : Node) (same : bare new_unit ≡ bare (get_or us unit (list_unit []))) where
  abbrev old_unit : Node
  old_unit = get_or us unit (list_unit [])

  abbrev changed : List Node
  changed = set us unit new_unit

  bare-same : map bare changed ≡ map bare us
  bare-same = map-set_same bare us unit new_unit (list_unit []) same

  depth-same : (k : ℕ) → depth_of changed k ≡ depth_of us k
  depth-same k = sym (depth-bare changed k) ∙ ap (λ ns. depth_of ns k) bare-same ∙ depth-bare us k

  alike : (k : ℕ) → IsAlike (tree_of changed k) (tree_of us k)
  alike k =
      let a = alike-bare changed k in
      let b = alike-bare us k in
      record {
        length = a.length ∙ ap (λ ns. len (tree_of ns k)) bare-same ∙ sym b.length;
        need = a.need ∙ ap (λ ns. need (tree_of ns k)) bare-same ∙ sym b.need;
      }

  size-same : (k : ℕ) → size_of (tree_of us k) (depth_of us k) ≡ size_of (tree_of changed k) (depth_of changed k)
  size-same k =
      let a = alike k in
      same_size _ _ (ap kept (sym a.length)) (ap kept (sym a.need)) (ap kept (sym (depth-same k)))

  starts-same : starts_in new_unit.body ≡ starts_in old_unit.body
  starts-same = sym (bare-starts new_unit.body) ∙ ap (λ (u : Node). starts_in u.body) same ∙ bare-starts old_unit.body

  few-same : HasFewTracks old_unit.body → HasFewTracks new_unit.body
  few-same few =
      few-with new_unit.body (subst (λ (u : Node). HasFewTracks u.body) (sym same) (few-bare old_unit.body few))

  module _ (there : unit < length us) (below : IsBodyBelow unit new_unit.body) (ranges : All IsAttached new_unit.filters) where
    graph-changed : IsGraph us → IsGraph changed
    graph-changed graph = record {
      bodies = each-set (λ k u. IsBodyBelow k u.body) us unit new_unit there graph.bodies below;
      filters = each-set (λ k u. All IsAttached u.filters) us unit new_unit there graph.filters ranges;
    }

    sized-changed : (sizes : List Size) → IsSized us sizes → IsSized changed sizes
    sized-changed sizes sized =
        let long = length-set us unit new_unit in
        record {
          graph = graph-changed sized.graph;
          few = omega (arith, long, sized.few);
          long = omega (arith, long, sized.long);
          told = record { each = λ k within. sized.told.each k within ∙ size-same k };
          lengths = λ k within.
              let frames = sized.lengths k (omega (arith, long)) in
              let same = (alike k).length in
              record { some = omega (arith, frames.some, same); short = omega (arith, frames.short, same) };
          tracks = All-set (λ u. HasFewTracks u.body) us unit new_unit (few-same (sized.tracks unit (list_unit []) there)) sized.tracks;
        }

    built-changed : (sizes : List Size) (weights : List Weight) (starts : List (List (List ℕ))) → IsBuilt us sizes weights starts → IsBuilt changed sizes weights starts
    built-changed sizes weights starts built = record {
      sized = sized-changed sizes built.sized;
      room = built.room ∙ sym (length-set us unit new_unit);
      lists = record { are = built.lists.are ∙ sym (map-set_same (λ (node : Node). starts_in node.body) us unit new_unit (list_unit []) starts-same) };
    }

-- ---- one filter more on a unit, or one merge

bare-planted : (body : Body) (plant : Plant) → bare_body (planted_more body plant) ≡ bare_body body
bare-planted (Source source kind frames) plant = refl
bare-planted (Entries entries) plant = refl
bare-planted (Tractor tracks plants) plant = refl

-- how many tracks a unit has
abbrev track_count : Body → ℕ
track_count (Source source kind frames) = 0
track_count (Entries entries) = 0
track_count (Tractor tracks plants) = length tracks

-- a mix with one plant more on its halves
planted-below : (count : ℕ) (body : Body) (plant : Plant) → IsMixOf body → IsPlant plant → IsOnTracks 2 plant → IsBodyBelow count body → IsBodyBelow count (planted_more body plant)
planted-below count (Source source kind frames) plant mix range on_tracks below = tt
planted-below count (Entries entries) plant mix range on_tracks below = below
planted-below count (Tractor tracks plants) plant mix range on_tracks below = record {
  some = below.some;
  tracks_below = below.tracks_below;
  ranges = All-push IsPlant plants plant below.ranges range;
  on_tracks = All-push (IsOnTracks (length tracks)) plants plant below.on_tracks (subst (λ (n : ℕ). IsOnTracks n plant) (sym (ap track_count mix.is)) on_tracks);
}

module _ (us : List Node) (unit : ℕ) (there : unit < length us) (sizes : List Size) (weights : List Weight) (starts : List (List (List ℕ))) (built : IsBuilt us sizes weights starts) where
  abbrev before : Node
  before = get_or us unit (list_unit [])

  known : before ≡ get_or us unit before
  known = get_or_default us unit (list_unit []) before there

  pub built-filtered : (filter : Attached) → IsAttached filter → IsBuilt (with_unit_filter us unit filter) sizes weights starts
  built-filtered filter range =
      let graph = built.sized.graph in
      built-changed us unit (with_filter before filter) refl there (graph.bodies unit before there known)
      (All-push IsAttached before.filters filter (graph.filters unit before there known) range) sizes weights starts built

  pub built-mixed : (spec : MergeSpec) → mix_frames before.body < 2 ^ 32 → IsMixOf before.body → IsMerge spec
      → IsBuilt (set us unit (with_merge before spec)) sizes weights starts
  built-mixed spec short mix range =
      let graph = built.sized.graph in
      let frames = mix_frames before.body in
      built-changed us unit (with_merge before spec) (ap (λ body. record { body = body; filters = [] }) (bare-planted before.body (mixer frames spec))) there
      (planted-below unit before.body (mixer frames spec) mix (range, omega arith, omega (arith, short)) (omega arith, omega arith, omega arith) (graph.bodies unit before there known))
      (graph.filters unit before there known) sizes weights starts built
