-- How great the numbers of a unit can be.
use Rattle.std.proofs.Common.{◌≡◌, ℕ, zero, suc, ◌+◌, ◌*◌, ◌<◌, ◌≤◌, List, [], ◌∷◌, length, get_or, refl, sym, subst, arith}
use Rattle.std.proofs.lemmas.Bool.Decides.{nat_tests}
use Rattle.std.proofs.lemmas.List.{get_or_default}
use Rattle.std.proofs.lemmas.List.Elements.{recursion_from_All}
use Rattle.std.specs.List.{All, AllByRecursion}
use Rattle.mlt_tree.specs.declared.entry.Entry.{Entry}
use Rattle.mlt_tree.specs.declared.entry.Entry.TheVariants.{Clip, Gap}
use Rattle.mlt_tree.specs.declared.node.Body.{Body}
use Rattle.mlt_tree.specs.declared.node.Body.TheVariants.{Source, Entries, Tractor}
use Rattle.mlt_tree.specs.declared.node.Node.{Node}
use Rattle.mlt_tree.specs.declared.node.Track.{Track as TrackOf}
use Rattle.mlt_tree.specs.declared.node.Track.TheVariants.{Playlist, Half}
use Rattle.mlt_tree.specs.declared.tree.Plant.{Plant}
use Rattle.mlt_tree.specs.Sizes.{need, weight, ops, need_in, weight_in, ops_in, need_of_rows, weight_of_rows, ops_of_rows, tracks_in}
use Rattle.mlt_tree.specs.Tree.{Tree}
use Rattle.mlt_tree.specs.Units.{entry_tree, entries_of, parts_of, track_tree, tracks_of, body_tree, node_tree, tree_of, entries_depth, tracks_depth, body_depth, depth_of, IsEntryBelow, IsTrackBelow, IsBodyBelow, IsGraph}
use Rattle.mlt_graph.specs.Graph.{HasFewTracks}
use Rattle.mlt_graph.proofs.Trees.{depth_of-step, every_unit}

pub tracks_in-of : (units : ℕ → Tree) (tracks : List TrackOf) → tracks_in (tracks_of units tracks) ≡ length tracks
tracks_in-of units [] = refl
tracks_in-of units (t ∷ ts) = omega (arith, tracks_in-of units ts)

-- ---- operations against weight

-- a weight, and fewer operations than twice the weight
abbrev FewOps : Tree → Type 0
FewOps t = ops t + 1 ≤ 2 * weight t

-- a tractor has a track
abbrev HasSomeTrack : Body → Type 0
HasSomeTrack (Source source kind frames) = Unit {0}
HasSomeTrack (Entries entries) = Unit {0}
HasSomeTrack (Tractor tracks plants) = 1 ≤ length tracks

has-some : (count : ℕ) (body : Body) → IsBodyBelow count body → HasSomeTrack body
has-some count (Source source kind frames) below = tt
has-some count (Entries entries) below = tt
has-some count (Tractor tracks plants) below = below.some

module _ (units : ℕ → Tree) (few : (k : ℕ) → FewOps (units k)) where
  entry-few : (e : Entry) → FewOps (entry_tree units e)
  entry-few (Clip unit span filters) = omega (arith, few unit.0)
  entry-few (Gap frames) = omega arith

  ops_in-few : (es : List Entry) → ops_in (parts_of units es) + 1 ≤ 2 * weight_in (parts_of units es)
  ops_in-few [] = omega arith
  ops_in-few (Clip unit span filters ∷ es) = omega (arith, few unit.0, ops_in-few es)
  ops_in-few (Gap frames ∷ es) = omega (arith, ops_in-few es)

  track-few : (t : TrackOf) → FewOps (track_tree units t)
  track-few (Playlist entries filters hide) = omega (arith, ops_in-few entries)
  track-few (Half entry frames) = entry-few entry

  ops_of_rows-few : (ts : List TrackOf) → ops_of_rows (tracks_of units ts) + length ts ≤ 2 * weight_of_rows (tracks_of units ts)
  ops_of_rows-few [] = omega arith
  ops_of_rows-few (t ∷ ts) = omega (arith, track-few t, ops_of_rows-few ts)

  rows-few : (ts : List TrackOf) (ps : List Plant) → 1 ≤ length ts → FewOps (body_tree units (Tractor ts ps))
  rows-few ts ps some =
      let h = ops_of_rows-few ts in
      let n = tracks_in-of units ts in
      grind (arith, nat_tests)

  body-few : (body : Body) → HasSomeTrack body → FewOps (body_tree units body)
  body-few (Source source kind frames) some = omega arith
  body-few (Entries entries) some = omega (arith, ops_in-few entries)
  body-few (Tractor tracks plants) some = rows-few tracks plants some

  node-few : (u : Node) → HasSomeTrack u.body → FewOps (node_tree units u)
  node-few u some = omega (arith, body-few u.body some)

pub ops-le : (us : List Node) → IsGraph us → (k : ℕ) → ops (tree_of us k) ≤ 2 * weight (tree_of us k)
ops-le us graph k =
    let few : FewOps (tree_of us k) =
    every_unit (λ u. HasSomeTrack u.body) (λ t depth. FewOps t) (omega arith) (λ units depths u some few. node-few units few u some) us
    (λ i d within. has-some i (get_or us i d).body (graph.bodies i (get_or us i d) within (get_or_default us i d (get_or us i d) within))) k in
    omega arith

-- ---- buffers against depth

abbrev FewBuffers : Tree → ℕ → Type 0
FewBuffers t depth = need t ≤ 257 * (depth + 1)

module _ (units : ℕ → Tree) (depths : ℕ → ℕ) (few : (k : ℕ) → FewBuffers (units k) (depths k)) where
  need_in-few : (es : List Entry) → need_in (parts_of units es) ≤ 257 * (entries_depth depths es + 1)
  need_in-few [] = omega arith
  need_in-few (Clip unit span filters ∷ es) = omega (arith, few unit.0, need_in-few es)
  need_in-few (Gap frames ∷ es) = omega (arith, need_in-few es)

  track-buffers : (t : TrackOf) → need (track_tree units t) ≤ 257 * (entries_depth depths (entries_of t) + 1)
  track-buffers (Playlist entries filters hide) = omega (arith, need_in-few entries)
  track-buffers (Half (Clip unit span filters) frames) = omega (arith, few unit.0)
  track-buffers (Half (Gap gap) frames) = omega arith

  need_of_rows-few : (ts : List TrackOf) → need_of_rows (tracks_of units ts) ≤ 257 * (tracks_depth depths ts + 1)
  need_of_rows-few [] = omega arith
  need_of_rows-few (t ∷ ts) = omega (arith, track-buffers t, need_of_rows-few ts)

  body-buffers : (body : Body) → HasFewTracks body → FewBuffers (body_tree units body) (body_depth depths body)
  body-buffers (Source source kind frames) tracks = omega arith
  body-buffers (Entries entries) tracks = omega (arith, need_in-few entries)
  body-buffers (Tractor ts plants) tracks = omega (arith, tracks, tracks_in-of units ts, need_of_rows-few ts)

pub need-le : (us : List Node) → All (λ u. HasFewTracks u.body) us → (k : ℕ) → need (tree_of us k) ≤ 257 * (depth_of us k + 1)
need-le us tracks k =
    every_unit (λ u. HasFewTracks u.body) FewBuffers (omega arith) (λ units depths u fits few. body-buffers units depths few u.body fits) us tracks k

-- ---- depth against number

module _ (count : ℕ) (depths : ℕ → ℕ) (low : (k : ℕ) → k < count → depths k ≤ count) where
  entries_depth-low : (es : List Entry) → AllByRecursion (IsEntryBelow count) es → entries_depth depths es ≤ count
  entries_depth-low [] below = omega arith
  entries_depth-low (Clip unit span filters ∷ es) below = omega (arith, low unit.0 below.0, entries_depth-low es below.1)
  entries_depth-low (Gap frames ∷ es) below = entries_depth-low es below.1

  tracks_depth-low : (ts : List TrackOf) → AllByRecursion (IsTrackBelow count) ts → tracks_depth depths ts ≤ count
  tracks_depth-low [] below = omega arith
  tracks_depth-low (t ∷ ts) below =
      omega (arith, entries_depth-low (entries_of t) (recursion_from_All (IsEntryBelow count) (entries_of t) below.0.entries.below), tracks_depth-low ts below.1)

  body_depth-low : (body : Body) → IsBodyBelow count body → body_depth depths body ≤ count + 1
  body_depth-low (Source source kind frames) below = omega arith
  body_depth-low (Entries entries) below =
      omega (arith, entries_depth-low entries (recursion_from_All (IsEntryBelow count) entries below.below))
  body_depth-low (Tractor tracks plants) below =
      omega (arith, tracks_depth-low tracks (recursion_from_All (IsTrackBelow count) tracks below.tracks_below))

-- some unit, for reading where one is there
some_unit : Node
some_unit = record { body = Entries []; filters = [] }

depth-low : (us : List Node) → IsGraph us → (limit k : ℕ) → k < limit → k < length us → depth_of us k ≤ k + 1
depth-low us graph zero k h below = omega arith
depth-low us graph (suc limit) k h below =
    let u = get_or us k some_unit in
    let at = get_or_default us k some_unit u below in
    subst (λ (n : ℕ). n ≤ k + 1) (sym (depth_of-step us k u graph below at))
    (body_depth-low k (depth_of us) (λ j lower. omega (arith, depth-low us graph limit j (omega arith) (omega arith))) u.body (graph.bodies k u below at))

-- a unit is nested no deeper than its number and one
pub depth-le : (us : List Node) → IsGraph us → (k : ℕ) → k < length us → depth_of us k ≤ k + 1
depth-le us graph k below = depth-low us graph (k + 1) k (omega arith) below
