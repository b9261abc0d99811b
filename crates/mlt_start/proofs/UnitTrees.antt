-- The trees of units: their plants are on their tracks, and what is in them is in its range.
use Rattle.std.proofs.Common.{ℕ, ◌≡◌, List, [], ◌∷◌, length, get_or, All, refl, sym, subst, arith}
use Rattle.std.proofs.lemmas.List.{get_or_default}
use Rattle.std.proofs.lemmas.List.Elements.{recursion_from_All}
use Rattle.std.specs.List.{AllByRecursion}
use Rattle.mlt_tree.specs.declared.entry.Entry.{Entry}
use Rattle.mlt_tree.specs.declared.entry.Entry.TheVariants.{Clip, Gap}
use Rattle.mlt_tree.specs.declared.node.Body.{Body}
use Rattle.mlt_tree.specs.declared.node.Body.TheVariants.{Source, Entries, Tractor}
use Rattle.mlt_tree.specs.declared.node.Node.{Node}
use Rattle.mlt_tree.specs.declared.node.Track.{Track as TrackOf}
use Rattle.mlt_tree.specs.declared.node.Track.TheVariants.{Playlist, Half}
use Rattle.mlt_tree.specs.Ranges.{IsAttached, IsEntry, IsPlant}
use Rattle.mlt_tree.specs.Sizes.{tracks_in}
use Rattle.mlt_tree.specs.Tree.{Tree}
use Rattle.mlt_tree.specs.Units.{entry_tree, parts_of, track_tree, tracks_of, body_tree, tree_of, IsBodyBelow, IsTrackBelow, IsOnTracks, IsGraph}
use Rattle.mlt_graph.proofs.Trees.{every_unit}
use Rattle.mlt_start.proofs.Planted.{IsPlanted, ArePlantedParts, ArePlantedTracks}
use Rattle.mlt_start.proofs.Ranged.{IsRanged, AreRangedParts, AreRangedTracks}

-- a unit that holds what is in its range
record IsRangedUnit (node : Node) : Type 0 where
  count : ℕ
  body : IsBodyBelow count node.body
  filters : All IsAttached node.filters

units-ranged : (us : List Node) → IsGraph us → All IsRangedUnit us
units-ranged us graph k d there =
    let node = get_or us k d in
    let at : node ≡ get_or us k node = get_or_default us k d node there in
    record { count = k; body = graph.bodies k node there at; filters = graph.filters k node there at }

-- as many tracks in the tree as in the unit
pub length-tracks : (units : ℕ → Tree) (tracks : List TrackOf) → tracks_in (tracks_of units tracks) ≡ length tracks
length-tracks units [] = refl
length-tracks units (track ∷ tracks) = omega (arith, length-tracks units tracks)

-- ---- plants are on tracks

module _ (units : ℕ → Tree) (each : (k : ℕ) → IsPlanted (units k)) where
  entry-planted : (e : Entry) → IsPlanted (entry_tree units e)
  entry-planted (Clip unit span filters) = each unit.0
  entry-planted (Gap count) = tt

  parts-planted : (es : List Entry) → ArePlantedParts (parts_of units es)
  parts-planted [] = tt
  parts-planted (e ∷ es) = (entry-planted e, parts-planted es)

  track-planted : (track : TrackOf) → IsPlanted (track_tree units track)
  track-planted (Playlist entries filters hide) = parts-planted entries
  track-planted (Half entry frames) = entry-planted entry

  tracks-planted : (tracks : List TrackOf) → ArePlantedTracks (tracks_of units tracks)
  tracks-planted [] = tt
  tracks-planted (track ∷ tracks) = (track-planted track, tracks-planted tracks)

  body-planted : (count : ℕ) (body : Body) → IsBodyBelow count body → IsPlanted (body_tree units body)
  body-planted count (Source source kind frames) h = tt
  body-planted count (Entries entries) h = parts-planted entries
  body-planted count (Tractor tracks plants) h = (
    omega (arith, h.some, length-tracks units tracks),
    tracks-planted tracks,
    subst (λ n. AllByRecursion (IsOnTracks n) plants) (sym (length-tracks units tracks)) (recursion_from_All (IsOnTracks (length tracks)) plants h.on_tracks),
  )

pub unit-planted : (us : List Node) → IsGraph us → (k : ℕ) → IsPlanted (tree_of us k)
unit-planted us graph k =
    every_unit IsRangedUnit (λ t depth. IsPlanted t) tt (λ units depths node h each. body-planted units each h.count node.body h.body) us (units-ranged us graph) k

pub unit-tracks-planted : (us : List Node) → IsGraph us → (tracks : List TrackOf) → ArePlantedTracks (tracks_of (tree_of us) tracks)
unit-tracks-planted us graph tracks = tracks-planted (tree_of us) (unit-planted us graph) tracks

pub unit-track-planted : (us : List Node) → IsGraph us → (track : TrackOf) → IsPlanted (track_tree (tree_of us) track)
unit-track-planted us graph track = track-planted (tree_of us) (unit-planted us graph) track

pub unit-parts-planted : (us : List Node) → IsGraph us → (es : List Entry) → ArePlantedParts (parts_of (tree_of us) es)
unit-parts-planted us graph es = parts-planted (tree_of us) (unit-planted us graph) es

-- ---- filters and plants are in their ranges

module _ (units : ℕ → Tree) (each : (k : ℕ) → IsRanged (units k)) where
  entry-ranged : (e : Entry) → IsEntry e → IsRanged (entry_tree units e)
  entry-ranged (Clip unit span filters) h = (each unit.0, h.1)
  entry-ranged (Gap count) h = tt

  parts-ranged : (es : List Entry) → AllByRecursion IsEntry es → AreRangedParts (parts_of units es)
  parts-ranged [] h = tt
  parts-ranged (e ∷ es) h = (entry-ranged e h.0, parts-ranged es h.1)

  track-ranged : (count : ℕ) (track : TrackOf) → IsTrackBelow count track → IsRanged (track_tree units track)
  track-ranged count (Playlist entries filters hide) h =
      (parts-ranged entries (recursion_from_All IsEntry entries h.entries.ranges), h.filters)
  track-ranged count (Half entry frames) h = entry-ranged entry (recursion_from_All IsEntry (entry ∷ []) h.entries.ranges).0

  tracks-ranged : (count : ℕ) (tracks : List TrackOf) → AllByRecursion (IsTrackBelow count) tracks → AreRangedTracks (tracks_of units tracks)
  tracks-ranged count [] h = tt
  tracks-ranged count (track ∷ tracks) h = (track-ranged count track h.0, tracks-ranged count tracks h.1)

  body-ranged : (count : ℕ) (body : Body) → IsBodyBelow count body → IsRanged (body_tree units body)
  body-ranged count (Source source kind frames) h = tt
  body-ranged count (Entries entries) h = parts-ranged entries (recursion_from_All IsEntry entries h.ranges)
  body-ranged count (Tractor tracks plants) h = (
    tracks-ranged count tracks (recursion_from_All (IsTrackBelow count) tracks h.tracks_below),
    recursion_from_All IsPlant plants h.ranges,
  )

pub unit-ranged : (us : List Node) → IsGraph us → (k : ℕ) → IsRanged (tree_of us k)
unit-ranged us graph k =
    every_unit IsRangedUnit (λ t depth. IsRanged t) tt (λ units depths node h each. (body-ranged units each h.count node.body h.body, h.filters)) us (units-ranged us graph) k
