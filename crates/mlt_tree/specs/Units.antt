-- Units, the tree that each stands for, and the tracks that become one.
use Rattle.std.specs.Prelude.{ℕ, ◌+◌, ◌-◌, ◌≡◌, ◌≢◌, ◌<◌, ◌≤◌, nat_lt, nat_eq, max, false, if◌then◌else◌, List, [], ◌∷◌, ◌++◌, length, map, fold, get_or, set, Option, None, Some, unwrap_or, Result, Ok, Err, All}
use Rattle.mlt_base.specs.declared.faults.PlayFault.{PlayFault}
use Rattle.mlt_base.specs.declared.faults.PlayFault.TheVariants.{TooMany}
use Rattle.mlt_base.specs.declared.limits.TheConstants.{MOST_TRACKS}
use Rattle.mlt_base.specs.declared.profile.SourceNo.{SourceNo}
use Rattle.mlt_base.specs.declared.value.Span.{Span}
use Rattle.mlt_base.specs.Span.{span}
use Rattle.mlt_tree.specs.declared.draft.Draft.{Draft}
use Rattle.mlt_tree.specs.declared.draft.Pending.{Pending}
use Rattle.mlt_tree.specs.declared.draft.PendingPlant.{PendingPlant}
use Rattle.mlt_tree.specs.declared.draft.PendingPlant.TheVariants as pending
use Rattle.mlt_tree.specs.declared.entry.Entry.{Entry}
use Rattle.mlt_tree.specs.declared.entry.Entry.TheVariants.{Clip, Gap}
use Rattle.mlt_tree.specs.declared.node.Body.{Body}
use Rattle.mlt_tree.specs.declared.node.Body.TheVariants.{Source, Entries, Tractor}
use Rattle.mlt_tree.specs.declared.node.Node.{Node}
use Rattle.mlt_tree.specs.declared.node.Track.{Track as TrackOf}
use Rattle.mlt_tree.specs.declared.node.Track.TheVariants.{Playlist, Half}
use Rattle.mlt_tree.specs.declared.merge.MergeSpec.{MergeSpec}
use Rattle.mlt_tree.specs.declared.tree.Attached.{Attached}
use Rattle.mlt_tree.specs.declared.tree.Hide.{Hide}
use Rattle.mlt_tree.specs.declared.tree.Plant.{Plant}
use Rattle.mlt_tree.specs.declared.tree.Plant.TheVariants.{OnTrack, Between}
use Rattle.mlt_tree.specs.declared.tree.SourceKind.{SourceKind}
use Rattle.mlt_tree.specs.Edits.{frames_in}
use Rattle.mlt_tree.specs.Ranges.{IsAttached, IsEntry, IsPlant}
use Rattle.mlt_tree.specs.Tree.{Tree, Parts, Tracks, Src, Blank, Part, Seq, With, Rows, End, Then, NoTrack, Track}

-- the unit of a source of so many frames
abbrev pub source_unit : SourceNo → SourceKind → ℕ → Node
source_unit source kind frames = record { body = Source source kind frames; filters = [] }

-- the unit of entries, one after another
abbrev pub list_unit : List Entry → Node
list_unit entries = record { body = Entries entries; filters = [] }

-- the tree of an entry, where the trees of units are given
abbrev pub entry_tree : (ℕ → Tree) → Entry → Tree
entry_tree units (Clip unit span filters) = Part (With (units unit.0) filters) span.first.0 span.last.0
entry_tree units (Gap count) = Blank count

abbrev pub parts_of : (ℕ → Tree) → List Entry → Parts
parts_of units [] = End
parts_of units (e ∷ es) = Then (entry_tree units e) (parts_of units es)

abbrev pub track_tree : (ℕ → Tree) → TrackOf → Tree
track_tree units (Playlist entries filters hide) = With (Seq (parts_of units entries)) filters
track_tree units (Half entry frames) = entry_tree units entry

-- gives both media
abbrev pub seen : Hide
seen = record { video = false; audio = false }

-- for which medium a track gives nothing
abbrev pub hide_of : TrackOf → Hide
hide_of (Playlist entries filters hide) = hide
hide_of (Half entry frames) = seen

abbrev pub tracks_of : (ℕ → Tree) → List TrackOf → Tracks
tracks_of units [] = NoTrack
tracks_of units (track ∷ tracks) = Track (track_tree units track) (hide_of track) (tracks_of units tracks)

abbrev pub body_tree : (ℕ → Tree) → Body → Tree
body_tree units (Source source kind count) = Src source.0 kind count
body_tree units (Entries entries) = Seq (parts_of units entries)
body_tree units (Tractor tracks plants) = Rows (tracks_of units tracks) plants

-- the tree of a unit
abbrev pub node_tree : (ℕ → Tree) → Node → Tree
node_tree units node = With (body_tree units node.body) node.filters

-- a unit that isn't there has no frame
abbrev pub nth_tree : List Tree → ℕ → Tree
nth_tree trees unit = get_or trees unit (Blank 0)

-- the trees of all units, each made of those before it
abbrev pub trees : List Node → List Tree
trees nodes = fold (λ so_far node. so_far ++ node_tree (nth_tree so_far) node ∷ []) [] nodes

-- the tree that a numbered unit stands for
abbrev pub tree_of : List Node → ℕ → Tree
tree_of nodes unit = nth_tree (trees nodes) unit

-- ---- tracks whose tractor is not made yet

-- where a filter or a merge ends that was given no last position: with the frames that it is on, but not before
-- it begins
abbrev pub last_within : (frames first : ℕ) → Option ℕ → ℕ
last_within frames first last = unwrap_or last (max first (frames - 1))

abbrev pub span_within : (frames first : ℕ) → Option ℕ → Span
span_within frames first last = span first (last_within frames first last)

-- a filter on so many frames
abbrev pub attached_within : ℕ → Pending → Attached
attached_within frames filter =
    record { spec = filter.spec; span = span_within frames filter.first filter.last }

-- a plant on so many frames
abbrev pub plant_within : ℕ → PendingPlant → Plant
plant_within frames (pending.OnTrack track spec first last) = OnTrack track spec (span_within frames first last)
plant_within frames (pending.Between a b spec first last) = Between a b spec (span_within frames first last)

-- the track, as it stands at the end
abbrev pub track_of : Draft → TrackOf
track_of draft =
    Playlist draft.entries (map (attached_within (frames_in draft.entries)) draft.filters) draft.hide

-- the tracks of a tractor that is not made yet: those to which nothing is added any more, the one that entries are
-- added to, and what is planted on them
pub record Level : Type 0 where
  pub closed : List Draft
  pub current : Draft
  pub plants : List PendingPlant

-- a track with no entry and no filter
abbrev pub empty_draft : Hide → Draft
empty_draft hide = record { entries = []; filters = []; hide = hide }

abbrev pub empty_level : Level
empty_level = record { closed = []; current = empty_draft seen; plants = [] }

abbrev pub drafts_of : Level → List Draft
drafts_of level = level.closed ++ level.current ∷ []

-- the frames of the longest track
abbrev pub level_frames : Level → ℕ
level_frames level = fold (λ most draft. max most (frames_in draft.entries)) 0 (drafts_of level)

-- the tractor of these tracks
abbrev pub tractor_of : Level → Node
tractor_of level = record {
  body = Tractor (map track_of (drafts_of level)) (map (plant_within (level_frames level)) level.plants);
  filters = [];
}

-- with other entries in the track that they are added to
abbrev pub with_entries : Level → List Entry → Level
with_entries level entries = record level { current = record level.current { entries = entries } }

-- a track begins, with this hide: where the last one has no entry it stays, and gets the hide
abbrev pub new_track : Level → Hide → Result Level PlayFault
new_track level hide = by level.current.entries where
  by : List Entry → Result Level PlayFault
  by [] = Ok (record level { current = record level.current { hide = hide } })
  by (e ∷ es) =
      if nat_lt (length (drafts_of level)) MOST_TRACKS then Ok (record level { closed = drafts_of level; current = empty_draft hide }) else Err (TooMany MOST_TRACKS)

-- with one plant more, which acts after those that there are
abbrev pub with_plant : Level → PendingPlant → Level
with_plant level plant = record level { plants = level.plants ++ plant ∷ [] }

-- ---- plants on tracks that aren't there

-- what is wrong with the tracks of a plant: one that isn't there, or the same one twice
pub data Misplaced : Type 0 where
  OffTracks : (no : ℕ) → Misplaced
  Doubled : (no : ℕ) → Misplaced

-- the first that is wrong, among so many tracks
abbrev pub misplaced : (tracks : ℕ) → PendingPlant → Option Misplaced
misplaced tracks (pending.OnTrack track spec first last) = if nat_lt track tracks then None else Some (OffTracks track)
misplaced tracks (pending.Between a b spec first last) =
    if nat_lt a tracks then (if nat_lt b tracks then (if nat_eq a b then Some (Doubled a) else None) else Some (OffTracks b)) else Some (OffTracks a)

-- a fault with the number of its plant, else the one that is found behind it
abbrev pub numbered_or : (plant : ℕ) → Option Misplaced → Option (ℕ × Misplaced) → Option (ℕ × Misplaced)
numbered_or plant None later = later
numbered_or plant (Some wrong) later = Some (plant, wrong)

-- of plants that are numbered from a number on, the first that is misplaced, and how
abbrev pub first_misplaced : (tracks from : ℕ) → List PendingPlant → Option (ℕ × Misplaced)
first_misplaced tracks from [] = None
first_misplaced tracks from (plant ∷ plants) =
    numbered_or from (misplaced tracks plant) (first_misplaced tracks (from + 1) plants)

-- the first plant of a level that is not on tracks which are there
abbrev pub level_misplaced : Level → Option (ℕ × Misplaced)
level_misplaced level = first_misplaced (length (drafts_of level)) 0 level.plants

-- ---- mixes

-- a merge of the halves, over all frames of their mix
abbrev pub mixer : (frames : ℕ) → MergeSpec → Plant
mixer frames spec = Between 0 1 spec (span 0 (frames - 1))

-- a mix of a and b over so many frames: two halves over each other, with the merges that act on them
abbrev pub mix_of : (a b : Entry) → (frames : ℕ) → (merges : List MergeSpec) → Body
mix_of a b frames merges = Tractor (Half a frames ∷ Half b frames ∷ []) (map (mixer frames) merges)

-- the unit of a mix, which has no merge yet
abbrev pub mix_unit : (a b : Entry) → (frames : ℕ) → Node
mix_unit a b frames = record { body = mix_of a b frames []; filters = [] }

-- over how many frames a mix is, as its first half says; a body that is no mix is over none
abbrev pub mix_frames : Body → ℕ
mix_frames (Tractor (Half a frames ∷ tracks) plants) = frames
mix_frames other = 0

-- with one plant more, where it is of tracks
abbrev pub planted_more : Body → Plant → Body
planted_more (Source source kind frames) plant = Source source kind frames
planted_more (Entries entries) plant = Entries entries
planted_more (Tractor tracks plants) plant = Tractor tracks (plants ++ plant ∷ [])

-- a mix, with one merge more
abbrev pub with_merge : Node → MergeSpec → Node
with_merge node spec = record node { body = planted_more node.body (mixer (mix_frames node.body) spec) }

-- the units, with one merge more on a numbered one, which is a mix
abbrev pub with_mixer : List Node → ℕ → MergeSpec → List Node
with_mixer nodes unit spec = set nodes unit (with_merge (get_or nodes unit (list_unit [])) spec)

-- a mix: of which entries, over how many frames, of which there is one at least, and with which merges
pub record IsMixOf (body : Body) : Type 0 where
  pub a : Entry
  pub b : Entry
  pub frames : ℕ
  pub merges : List MergeSpec
  pub some : 1 ≤ frames
  pub is : body ≡ mix_of a b frames merges

-- a numbered unit is there, and is a mix
pub record IsMix (nodes : List Node) (unit : ℕ) : Type 0 where
  pub there : unit < length nodes
  pub mix : IsMixOf (get_or nodes unit (list_unit [])).body

-- ---- filters that are attached

-- a unit with one filter more, which acts after those that it has
abbrev pub with_filter : Node → Attached → Node
with_filter node filter = record node { filters = node.filters ++ filter ∷ [] }

-- the units, with one filter more on a numbered one
abbrev pub with_unit_filter : List Node → ℕ → Attached → List Node
with_unit_filter nodes unit filter = set nodes unit (with_filter (get_or nodes unit (list_unit [])) filter)

-- with one filter more on the track that entries are added to
abbrev pub with_track_filter : Level → Pending → Level
with_track_filter level filter =
    record level { current = record level.current { filters = level.current.filters ++ filter ∷ [] } }

-- ---- how deep units are nested

-- the greatest depth of the entries' units
abbrev pub entries_depth : (ℕ → ℕ) → List Entry → ℕ
entries_depth depths [] = 0
entries_depth depths (Clip unit span filters ∷ es) = max (depths unit.0) (entries_depth depths es)
entries_depth depths (Gap count ∷ es) = entries_depth depths es

-- the entries of a track
abbrev pub entries_of : TrackOf → List Entry
entries_of (Playlist entries filters hide) = entries
entries_of (Half entry frames) = entry ∷ []

abbrev pub tracks_depth : (ℕ → ℕ) → List TrackOf → ℕ
tracks_depth depths [] = 0
tracks_depth depths (track ∷ tracks) = max (entries_depth depths (entries_of track)) (tracks_depth depths tracks)

-- 0 for a source, and one more than the greatest of its members for another unit
abbrev pub body_depth : (ℕ → ℕ) → Body → ℕ
body_depth depths (Source source kind count) = 0
body_depth depths (Entries entries) = entries_depth depths entries + 1
body_depth depths (Tractor tracks plants) = tracks_depth depths tracks + 1

abbrev pub depths : List Node → List ℕ
depths nodes = fold (λ so_far node. so_far ++ body_depth (λ unit. get_or so_far unit 0) node.body ∷ []) [] nodes

-- the depth of a numbered unit
abbrev pub depth_of : List Node → ℕ → ℕ
depth_of nodes unit = get_or (depths nodes) unit 0

-- ---- what holds of the units of a graph

-- each unit of the entries is below a number
abbrev pub IsEntryBelow : ℕ → Entry → Type 0
IsEntryBelow count (Clip unit span filters) = unit.0 < count
IsEntryBelow count (Gap gap) = Unit {0}

pub record AreEntriesBelow (count : ℕ) (entries : List Entry) : Type 0 where
  pub below : All (IsEntryBelow count) entries
  pub ranges : All IsEntry entries

-- the filters of a track
abbrev pub filters_of : TrackOf → List Attached
filters_of (Playlist entries filters hide) = filters
filters_of (Half entry frames) = []

pub record IsTrackBelow (count : ℕ) (track : TrackOf) : Type 0 where
  pub entries : AreEntriesBelow count (entries_of track)
  pub filters : All IsAttached (filters_of track)

-- a plant is on tracks that are there, and a merge on two of them
abbrev pub IsOnTracks : ℕ → Plant → Type 0
IsOnTracks tracks (OnTrack track spec span) = track < tracks
IsOnTracks tracks (Between a b spec span) = (a < tracks) × (b < tracks) × (a ≢ b)

-- the units of a tractor's tracks, and its plants
pub record IsTractorBelow (count : ℕ) (tracks : List TrackOf) (plants : List Plant) : Type 0 where
  pub some : 1 ≤ length tracks
  pub tracks_below : All (IsTrackBelow count) tracks
  pub ranges : All IsPlant plants
  pub on_tracks : All (IsOnTracks (length tracks)) plants

abbrev pub IsBodyBelow : ℕ → Body → Type 0
IsBodyBelow count (Source source kind frames) = Unit {0}
IsBodyBelow count (Entries entries) = AreEntriesBelow count entries
IsBodyBelow count (Tractor tracks plants) = IsTractorBelow count tracks plants

-- units refer to lower-numbered ones alone, and hold what is in its range
pub record IsGraph (nodes : List Node) : Type 0 where
  pub bodies : (unit : ℕ) (node : Node) → unit < length nodes → node ≡ get_or nodes unit node → IsBodyBelow unit node.body
  pub filters : (unit : ℕ) (node : Node) → unit < length nodes → node ≡ get_or nodes unit node → All IsAttached node.filters
