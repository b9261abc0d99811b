-- The weight that is made up of the weights of the parts is that of the tree.
use Rattle.std.proofs.Common.{◌≡◌, ℕ, ◌+◌, ◌-◌, ◌^◌, ◌<◌, ◌≤◌, Bool, true, false, cond, ltb, eqb, List, [], ◌∷◌, length, get_or, set, fold, refl, sym, ap, ◌∙◌, arith}
use Rattle.std.proofs.lemmas.Bool.Decides.{nat_tests}
use Rattle.std.proofs.lemmas.Grind.{common_steps}
use Rattle.std.proofs.lemmas.List.{length-set}
use Rattle.std.proofs.lemmas.List.Elements.{recursion_from_All, All-weaker}
use Rattle.std.specs.List.{All, AllByRecursion}
use Rattle.mlt_tree.specs.declared.entry.Entry.{Entry}
use Rattle.mlt_tree.specs.declared.entry.Entry.TheVariants.{Clip, Gap}
use Rattle.mlt_tree.specs.declared.node.Body.{Body}
use Rattle.mlt_tree.specs.declared.node.Body.TheVariants.{Source, Entries, Tractor}
use Rattle.mlt_tree.specs.declared.node.Node.{Node}
use Rattle.mlt_tree.specs.declared.node.Track.{Track as TrackOf}
use Rattle.mlt_tree.specs.declared.node.Track.TheVariants.{Playlist, Half}
use Rattle.mlt_tree.specs.Sizes.{weight_in, ops_in, weight_of_rows, ops_of_rows, tracks_in}
use Rattle.mlt_tree.specs.Tree.{Tree, Parts, End, Then, Seq}
use Rattle.mlt_tree.specs.Units.{entry_tree, entries_of, parts_of, track_tree, tracks_of, body_tree, node_tree, tree_of, IsEntryBelow, IsTrackBelow, IsBodyBelow, IsGraph}
use Rattle.mlt_graph.specs.declared.weight.Weight.{Weight}
use Rattle.mlt_graph.specs.Sizes.{kept}
use Rattle.mlt_graph.specs.Weights.{weight_of, weightless, single, with_filters, entry_weight, heavier, entries_weight, together, track_weight, tracks_weight, choosing, body_weight, node_weight, Weighs}
use Rattle.mlt_graph.proofs.Bounds.{tracks_in-of}
use Rattle.mlt_graph.proofs.Trees.{tree_of-step}

abbrev weighed : (weight ops : ℕ) → Weight
weighed weight ops = record { weight = weight; ops = ops }

-- weights with the same numbers are the same
same_weight : (a b : Weight) → a.weight ≡ b.weight → a.ops ≡ b.ops → a ≡ b
same_weight a b weight ops = by a.weight a.ops b.weight b.ops weight ops
  where
    by : (w o w' o' : ℕ) → w ≡ w' → o ≡ o' → weighed w o ≡ weighed w' o'
    by w o w' o' ew eo = cc

-- the numbers of a weight are kept
record IsKept (a : Weight) : Type 0 where
  weight : a.weight ≤ 2 ^ 32 - 1
  ops : a.ops ≤ 2 ^ 32 - 1

-- there is something
record IsSome (a : Weight) : Type 0 where
  weight : 1 ≤ a.weight
  ops : 1 ≤ a.ops

weight_in-some : (parts : Parts) → 1 ≤ weight_in parts
weight_in-some End = omega arith
weight_in-some (Then t parts) = omega (arith, weight_in-some parts)

ops_in-some : (parts : Parts) → 1 ≤ ops_in parts
ops_in-some End = omega arith
ops_in-some (Then t parts) = omega (arith, ops_in-some parts)

module _ (table : List Weight) (units : ℕ → Tree) (count : ℕ) (weighs : Weighs table units count) where
  entry_weight-is : (e : Entry) → IsEntryBelow count e → entry_weight table e ≡ weight_of (entry_tree units e)
  entry_weight-is (Clip unit span filters) below =
      let told = weighs.each unit.0 below in
      same_weight _ _
      (ap (λ (w : Weight). kept (w.weight + length filters)) told ∙ omega arith)
      (ap (λ (w : Weight). kept (w.ops + length filters)) told ∙ omega arith)
  entry_weight-is (Gap frames) below = same_weight _ _ refl refl

  entries_weight-from : (a : Weight) (es : List Entry) → IsSome a → AllByRecursion (IsEntryBelow count) es
      → fold (λ w e. heavier w (entry_weight table e)) a es ≡ heavier a (weight_of (Seq (parts_of units es)))
  entries_weight-from a [] some below = same_weight _ _ (omega (arith, some.weight)) (omega (arith, some.ops))
  entries_weight-from a (e ∷ es) some below =
      let first = weight_of (entry_tree units e) in
      ap (λ w. fold (λ w e. heavier w (entry_weight table e)) (heavier a w) es) (entry_weight-is e below.0)
      ∙ entries_weight-from (heavier a first) es (record { weight = omega (arith, some.weight); ops = omega (arith, some.ops) }) below.1
      ∙ same_weight _ _ (omega arith) (omega arith)

  entries_weight-is : (es : List Entry) → All (IsEntryBelow count) es → entries_weight table es ≡ weight_of (Seq (parts_of units es))
  entries_weight-is es below =
      entries_weight-from single es (record { weight = omega arith; ops = omega arith }) (recursion_from_All (IsEntryBelow count) es below)
      ∙ same_weight _ _ (omega (arith, weight_in-some (parts_of units es))) (omega (arith, ops_in-some (parts_of units es)))

  track_weight-is : (track : TrackOf) → IsTrackBelow count track → track_weight table track ≡ weight_of (track_tree units track)
  track_weight-is (Playlist entries filters hide) below =
      ap (with_filters (length filters)) (entries_weight-is entries below.entries.below)
      ∙ same_weight _ _ (omega arith) (omega arith)
  track_weight-is (Half entry frames) below =
      entry_weight-is entry (recursion_from_All (IsEntryBelow count) (entry ∷ []) below.entries.below).0

  -- the weight of tracks
  abbrev rows_weight : List TrackOf → Weight
  rows_weight tracks = record {
    weight = kept (weight_of_rows (tracks_of units tracks));
    ops = kept (ops_of_rows (tracks_of units tracks));
  }

  tracks_weight-from : (a : Weight) (tracks : List TrackOf) → IsKept a → AllByRecursion (IsTrackBelow count) tracks
      → fold (λ w track. together w (track_weight table track)) a tracks ≡ together a (rows_weight tracks)
  tracks_weight-from a [] is below = same_weight _ _ (omega (arith, is.weight)) (omega (arith, is.ops))
  tracks_weight-from a (track ∷ tracks) is below =
      let row = weight_of (track_tree units track) in
      ap (λ w. fold (λ w track. together w (track_weight table track)) (together a w) tracks) (track_weight-is track below.0)
      ∙ tracks_weight-from (together a row) tracks (record { weight = omega arith; ops = omega arith }) below.1
      ∙ same_weight _ _ (omega arith) (omega arith)

  tracks_weight-is : (tracks : List TrackOf) → All (IsTrackBelow count) tracks → tracks_weight table tracks ≡ rows_weight tracks
  tracks_weight-is tracks below =
      tracks_weight-from weightless tracks (record { weight = omega arith; ops = omega arith }) (recursion_from_All (IsTrackBelow count) tracks below)
      ∙ same_weight _ _ (omega arith) (omega arith)

  body_weight-is : (body : Body) → IsBodyBelow count body → body_weight table body ≡ weight_of (body_tree units body)
  body_weight-is (Source source kind frames) below = same_weight _ _ (omega arith) (omega arith)
  body_weight-is (Entries entries) below = entries_weight-is entries below.below
  body_weight-is (Tractor tracks plants) below =
      let chosen : ℕ → ℕ = λ n. cond (ltb 1 n) 1 0 in
      let more : chosen (tracks_in (tracks_of units tracks)) ≡ chosen (length tracks) = ap chosen (tracks_in-of units tracks) in
      ap (λ w. choosing (length tracks) (with_filters (length plants) w)) (tracks_weight-is tracks below.tracks_below)
      ∙ same_weight _ _ (omega arith) (omega (arith, more))

  -- a unit whose units are in the table
  pub node_weight-is : (node : Node) → IsBodyBelow count node.body → node_weight table node ≡ weight_of (node_tree units node)
  node_weight-is node below =
      ap (with_filters (length node.filters)) (body_weight-is node.body below) ∙ same_weight _ _ (omega arith) (omega arith)

-- ---- the table, filled in unit by unit

entries_below-more : (a b : ℕ) (es : List Entry) → a ≤ b → All (IsEntryBelow a) es → All (IsEntryBelow b) es
entries_below-more a b es more all = All-weaker (IsEntryBelow a) (IsEntryBelow b) (one a b more) es all where
  one : (a b : ℕ) → a ≤ b → (e : Entry) → IsEntryBelow a e → IsEntryBelow b e
  one a b more (Clip unit span filters) below = omega arith
  one a b more (Gap frames) below = tt

-- units below a number are below a greater one
pub body_below-more : (a b : ℕ) (body : Body) → a ≤ b → IsBodyBelow a body → IsBodyBelow b body
body_below-more a b (Source source kind frames) more below = tt
body_below-more a b (Entries entries) more below =
    record { below = entries_below-more a b entries more below.below; ranges = below.ranges }
body_below-more a b (Tractor tracks plants) more below = record {
  some = below.some;
  tracks_below = All-weaker (IsTrackBelow a) (IsTrackBelow b) (λ track h. record {
    entries = record { below = entries_below-more a b (entries_of track) more h.entries.below; ranges = h.entries.ranges };
    filters = h.filters;
  }) tracks below.tracks_below;
  ranges = below.ranges;
  on_tracks = below.on_tracks;
}

same_number : (a b : ℕ) → eqb a b ≡ true → a ≡ b
same_number a b h = grind (arith, nat_tests)

lower : (a b : ℕ) → a < b + 1 → eqb a b ≡ false → a < b
lower a b within h = grind (arith, nat_tests)

-- what a table has with one weight more
set_weight : (table : List Weight) (k j : ℕ) (w : Weight) → k < length table → get_or (set table k w) j weightless ≡ cond (eqb j k) w (get_or table j weightless)
set_weight table k j w below = grind (arith, common_steps, nat_tests)

pub record Weighed (nodes : List Node) (table : List Weight) (count : ℕ) : Type 0 where
  pub long : length table ≡ length nodes
  pub told : Weighs table (tree_of nodes) count

pub weighs-next : (nodes : List Node) (table : List Weight) (k : ℕ) (node : Node) (w : Weight) → IsGraph nodes → length table ≡ length nodes
    → Weighs table (tree_of nodes) k → k < length nodes → node ≡ get_or nodes k node → w ≡ node_weight table node → Weighed nodes (set table k w) (k + 1)
weighs-next nodes table k node w graph long weighs below at is = record {
  long = omega (arith, long, length-set table k w);
  told = record { each = λ unit within. set_weight table k unit w (omega (arith, long)) ∙ by unit within (eqb unit k) refl };
}
  where
    here : w ≡ weight_of (tree_of nodes k)
    here =
        is ∙ node_weight-is table (tree_of nodes) k weighs node (graph.bodies k node below at) ∙ ap weight_of (sym (tree_of-step nodes k node graph below at))

    by : (unit : ℕ) → unit < k + 1 → (b : Bool) → eqb unit k ≡ b → cond b w (get_or table unit weightless) ≡ weight_of (tree_of nodes unit)
    by unit within true same = here ∙ ap (λ n. weight_of (tree_of nodes n)) (sym (same_number unit k same))
    by unit within false other = weighs.each unit (lower unit k within other)
