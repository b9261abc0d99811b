-- A unit is put behind the others of a graph.
use Rattle.std.proofs.Common.{◌≡◌, ℕ, ◌+◌, ◌<◌, ◌≤◌, ◌^◌, ◌⊎◌, inl, inr, List, [], ◌∷◌, ◌++◌, length, get_or, map, refl, sym, ap, ◌∙◌, subst, arith, length-append}
use Rattle.std.proofs.lemmas.Bool.{cases_lt}
use Rattle.std.proofs.lemmas.List.{get_or_append_left, get_or_push, map-append}
use Rattle.std.proofs.lemmas.List.Elements.{All-nil, All-push, All-from_recursion, recursion_from_All}
use Rattle.std.specs.List.{All}
use Rattle.mlt_tree.specs.declared.entry.Entry.{Entry}
use Rattle.mlt_tree.specs.declared.entry.Entry.TheVariants.{Clip, Gap}
use Rattle.mlt_tree.specs.declared.node.Body.{Body}
use Rattle.mlt_tree.specs.declared.node.Body.TheVariants.{Entries}
use Rattle.mlt_tree.specs.declared.node.Node.{Node}
use Rattle.mlt_tree.specs.declared.node.Track.TheVariants.{Half}
use Rattle.mlt_tree.specs.Edits.{frames_in}
use Rattle.mlt_tree.specs.Ranges.{IsAttached, IsEntry, IsPlant, frames}
use Rattle.mlt_tree.specs.Tree.{Tree, len}
use Rattle.mlt_tree.specs.Units.{entry_tree, list_unit, mix_unit, node_tree, tree_of, body_depth, depth_of, IsEntryBelow, AreEntriesBelow, IsTrackBelow, IsOnTracks, IsBodyBelow, IsGraph}
use Rattle.mlt_graph.specs.Graph.{HasLength, HasFewTracks, IsBuilt, IsSized}
use Rattle.mlt_graph.specs.Lists.{starts_in}
use Rattle.mlt_graph.specs.Sizes.{nothing, size_of, entries_size, list_size, mix_size}
use Rattle.mlt_graph.specs.declared.size.Size.{Size}
use Rattle.mlt_graph.specs.declared.weight.Weight.{Weight}
use Rattle.mlt_graph.proofs.SizeLemmas.{len_in-frames, list_size-is, mix_size-is}
use Rattle.mlt_graph.proofs.Trees.{tree_of-append, tree_of-new, depth_of-append, depth_of-new}

-- a unit with no filter
abbrev unit_of : Body → Node
unit_of body = record { body = body; filters = [] }

-- what holds of the older units and of the new one holds of all
each-push : {X : Type 0} (P : ℕ → X → Type 0) (xs : List X) (x : X) → ((k : ℕ) (y : X) → k < length xs → y ≡ get_or xs k y → P k y) → P (length xs) x
    → (k : ℕ) (y : X) → k < length (xs ++ x ∷ []) → y ≡ get_or (xs ++ x ∷ []) k y → P k y
each-push P xs x old new k y within at = by (cases_lt k (length xs))
  where
    by : (k < length xs) ⊎ (length xs ≤ k) → P k y
    by (inl below) = old k y below (at ∙ get_or_append_left xs (x ∷ []) y k below)
    by (inr above) =
        let last : length xs ≡ k = omega (arith, length-append xs (x ∷ [])) in
        let is : x ≡ y = sym (at ∙ get_or_push xs x y k last) in
        subst (P k) is (subst (λ (n : ℕ). P n x) last new)

-- units that refer to lower-numbered ones do so with one more of them
pub graph-push : (us : List Node) (u : Node) → IsGraph us → IsBodyBelow (length us) u.body → All IsAttached u.filters → IsGraph (us ++ u ∷ [])
graph-push us u graph below filters = record {
  bodies = each-push (λ k u. IsBodyBelow k u.body) us u graph.bodies below;
  filters = each-push (λ k u. All IsAttached u.filters) us u graph.filters filters;
}

module _ (us : List Node) (sizes : List Size) (body : Body) (size : Size) (sized : IsSized us sizes) (more : length us + 1 < 2 ^ 32)
    (below : IsBodyBelow (length us) body) (tracks : HasFewTracks body) (frames : HasLength (node_tree (tree_of us) (unit_of body)))
    (size_is : size ≡ size_of (node_tree (tree_of us) (unit_of body)) (body_depth (depth_of us) body)) where
  -- the tree and the depth of a unit once the new one is there
  long : length (us ++ unit_of body ∷ []) ≡ length us + 1
  long = length-append us (unit_of body ∷ [])

  all_units : (P : Tree → ℕ → ℕ → Type 0) → ((k : ℕ) → k < length us → P (tree_of us k) (depth_of us k) k)
      → P (node_tree (tree_of us) (unit_of body)) (body_depth (depth_of us) body) (length us)
      → (k : ℕ) → k < length us + 1 → P (tree_of (us ++ unit_of body ∷ []) k) (depth_of (us ++ unit_of body ∷ []) k) k
  all_units P old new k within = by (cases_lt k (length us))
    where
      by : (k < length us) ⊎ (length us ≤ k) → P (tree_of (us ++ unit_of body ∷ []) k) (depth_of (us ++ unit_of body ∷ []) k) k
      by (inl older) = rw (tree_of-append us (unit_of body ∷ []) k older, depth_of-append us (unit_of body ∷ []) k older) (old k older)
      by (inr above) =
          let last : length us ≡ k = omega arith in
          subst (λ (n : ℕ). P (tree_of (us ++ unit_of body ∷ []) n) (depth_of (us ++ unit_of body ∷ []) n) n) last
          (rw (tree_of-new us (unit_of body), depth_of-new us (unit_of body)) new)

  pub sized-push : IsSized (us ++ unit_of body ∷ []) (sizes ++ size ∷ [])
  sized-push = record {
    graph = graph-push us (unit_of body) sized.graph below (All-nil IsAttached);
    few = omega (arith, long, more);
    long = omega (arith, long, sized.long, length-append sizes (size ∷ []));
    told = record {
      each = λ k within. all_units (λ t d k. get_or (sizes ++ size ∷ []) k nothing ≡ size_of t d)
          (λ k older. get_or_append_left sizes (size ∷ []) nothing k (omega (arith, sized.long)) ∙ sized.told.each k (omega (arith, sized.long)))
          (get_or_push sizes size nothing (length us) sized.long ∙ size_is) k (omega (arith, sized.long, length-append sizes (size ∷ [])));
    };
    lengths = λ k within. all_units (λ t d k. HasLength t) sized.lengths frames k (omega (arith, long));
    tracks = All-push (λ u. HasFewTracks u.body) us (unit_of body) sized.tracks tracks;
  }

-- and so has what is kept beside the units
pub built-push : (us : List Node) (sizes : List Size) (weights : List Weight) (starts : List (List (List ℕ))) (body : Body) (size : Size) (weight : Weight) (begins : List (List ℕ))
    → IsBuilt us sizes weights starts → length us + 1 < 2 ^ 32 → IsBodyBelow (length us) body → HasFewTracks body → HasLength (node_tree (tree_of us) (unit_of body))
    → size ≡ size_of (node_tree (tree_of us) (unit_of body)) (body_depth (depth_of us) body) → begins ≡ starts_in body
    → IsBuilt (us ++ unit_of body ∷ []) (sizes ++ size ∷ []) (weights ++ weight ∷ []) (starts ++ begins ∷ [])
built-push us sizes weights starts body size weight begins built more below tracks frames size_is begins_is = record {
  sized = sized-push us sizes body size built.sized more below tracks frames size_is;
  room = omega (arith, built.room, length-append weights (weight ∷ []), length-append us (unit_of body ∷ []));
  lists = record {
    are = ap (λ all. all ++ begins ∷ []) built.lists.are
        ∙ ap (λ last. map (λ (node : Node). starts_in node.body) us ++ last ∷ []) begins_is
        ∙ sym (map-append (λ (node : Node). starts_in node.body) us (unit_of body ∷ []));
  };
}

-- the unit of a list has as many frames as its entries
pub list_unit-length : (units : ℕ → Tree) (es : List Entry) → 1 ≤ frames_in es → frames_in es < 2 ^ 31 → HasLength (node_tree units (list_unit es))
list_unit-length units es some short =
    record { some = omega (arith, len_in-frames units es); short = omega (arith, len_in-frames units es) }

-- and the size that is made up of its entries
pub list_unit-size : (us : List Node) (sizes : List Size) (es : List Entry) → IsSized us sizes → All (IsEntryBelow (length us)) es
    → list_size (entries_size sizes es) ≡ size_of (node_tree (tree_of us) (list_unit es)) (body_depth (depth_of us) (Entries es))
list_unit-size us sizes es sized below =
    list_size-is sizes (tree_of us) (depth_of us) sized.told es (subst (λ (n : ℕ). All (IsEntryBelow n) es) (sym sized.long) below)

-- ---- mixes

entry-length : (units : ℕ → Tree) (e : Entry) → len (entry_tree units e) ≡ frames e
entry-length units (Clip unit span filters) = refl
entry-length units (Gap count) = refl

entry-some : (e : Entry) → IsEntry e → 1 ≤ frames e
entry-some (Clip unit span filters) range = omega (arith, range.0)
entry-some (Gap count) range = range

-- a half is of lower units
half-below : (count : ℕ) (e : Entry) → IsEntryBelow count e → IsEntry e → (n : ℕ) → IsTrackBelow count (Half e n)
half-below count e below range n = record {
  entries = record {
    below = All-from_recursion (IsEntryBelow count) (e ∷ []) (below, tt);
    ranges = All-from_recursion IsEntry (e ∷ []) (range, tt);
  };
  filters = All-nil IsAttached;
}

pub mix-below : (count : ℕ) (a b : Entry) (n : ℕ) → AreEntriesBelow count (a ∷ b ∷ []) → IsBodyBelow count (mix_unit a b n).body
mix-below count a b n are =
    let below = recursion_from_All (IsEntryBelow count) (a ∷ b ∷ []) are.below in
    let ranges = recursion_from_All IsEntry (a ∷ b ∷ []) are.ranges in
    record {
      some = omega arith;
      tracks_below = All-from_recursion (IsTrackBelow count) (Half a n ∷ Half b n ∷ []) (half-below count a below.0 ranges.0 n, (half-below count b below.1.0 ranges.1.0 n, tt));
      ranges = All-nil IsPlant;
      on_tracks = All-nil (IsOnTracks 2);
    }

-- a mix has as many frames as its longer half
pub mix-length : (units : ℕ → Tree) (count : ℕ) (a b : Entry) (n : ℕ) → AreEntriesBelow count (a ∷ b ∷ []) → frames a < 2 ^ 31 → frames b < 2 ^ 31 → HasLength (node_tree units (mix_unit a b n))
mix-length units count a b n are first second =
    let ranges = recursion_from_All IsEntry (a ∷ b ∷ []) are.ranges in
    record {
      some = omega (arith, entry-length units a, entry-some a ranges.0);
      short = omega (arith, entry-length units a, entry-length units b, first, second);
    }

-- and the size that is made up of both
pub mix-size : (us : List Node) (sizes : List Size) (a b : Entry) (n : ℕ) → IsSized us sizes → AreEntriesBelow (length us) (a ∷ b ∷ [])
    → mix_size sizes a b ≡ size_of (node_tree (tree_of us) (mix_unit a b n)) (body_depth (depth_of us) (mix_unit a b n).body)
mix-size us sizes a b n sized are =
    let below = recursion_from_All (IsEntryBelow (length sizes)) (a ∷ b ∷ []) (subst (λ (n : ℕ). All (IsEntryBelow n) (a ∷ b ∷ [])) (sym sized.long) are.below) in
    mix_size-is sizes (tree_of us) (depth_of us) sized.told a b n below.0 below.1.0
