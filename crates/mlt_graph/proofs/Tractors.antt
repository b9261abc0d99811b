-- The unit of a level's tracks.
use Rattle.std.proofs.Common.{◌≡◌, ℕ, ◌+◌, ◌<◌, ◌≢◌, ◌^◌, List, [], ◌∷◌, ◌++◌, length, get_or, map, fold, max, Option, None, Some, refl, sym, ap, ◌∙◌, subst, arith, length-append}
use Rattle.std.proofs.lemmas.List.{length-map}
use Rattle.std.proofs.lemmas.List.Elements.{All-map, All-push, All-weaker, All-from_recursion, recursion_from_All}
use Rattle.std.proofs.lemmas.List.Sums.{fold_push}
use Rattle.std.specs.List.{All, AllByRecursion}
use Rattle.mlt_base.specs.Span.{IsSpan}
use Rattle.mlt_tree.specs.declared.draft.Draft.{Draft}
use Rattle.mlt_tree.specs.declared.draft.Pending.{Pending}
use Rattle.mlt_tree.specs.declared.draft.PendingPlant.{PendingPlant}
use Rattle.mlt_tree.specs.declared.draft.PendingPlant.TheVariants.{OnTrack, Between}
use Rattle.mlt_tree.specs.declared.node.Body.TheVariants.{Tractor}
use Rattle.mlt_tree.specs.declared.node.Node.{Node}
use Rattle.mlt_tree.specs.declared.node.Track.{Track as TrackOf}
use Rattle.mlt_tree.specs.declared.tree.Plant.{Plant}
use Rattle.mlt_tree.specs.Acting.{span_frames}
use Rattle.mlt_tree.specs.Ranges.{IsAttached, IsPlant, frames}
use Rattle.mlt_tree.specs.Tree.{Tree, len, longest}
use Rattle.mlt_tree.specs.Units.{Level, misplaced, first_misplaced, level_misplaced, entries_of, filters_of, drafts_of, track_of, span_within, attached_within, plant_within, level_frames, tractor_of, tracks_of, node_tree, tree_of, body_depth, depth_of, IsEntryBelow, AreEntriesBelow, IsTrackBelow, IsOnTracks, IsBodyBelow}
use Rattle.mlt_tree.specs.Edits.{frames_in}
use Rattle.mlt_playlist.specs.Playlist.{IsList}
use Rattle.mlt_graph.specs.Drafts.{IsOpenSpan, IsPending, IsPlanned, IsFinished, IsLevel}
use Rattle.mlt_graph.specs.Graph.{HasLength, IsSized}
use Rattle.mlt_graph.specs.Lists.{starts_in}
use Rattle.mlt_graph.specs.Sizes.{nothing, over_size, entries_size, drafts_size, size_of, tractor_size}
use Rattle.mlt_graph.specs.declared.size.Size.{Size}
use Rattle.mlt_graph.proofs.Placed.{on-track, on-both, parted-none}
use Rattle.mlt_graph.proofs.SizeLemmas.{len_in-frames, tractor_size-is}

-- ---- what a level's tracks are

-- a filter on so many frames is in its range
span-within : (frames first : ℕ) (last : Option ℕ) → IsOpenSpan first last → IsSpan (span_within frames first last)
span-within frames first None is = omega arith
span-within frames first (Some end) is = is.0

attached-within : (frames : ℕ) (filter : Pending) → IsPending filter → IsAttached (attached_within frames filter)
attached-within frames filter is = (is.spec, span-within frames filter.first filter.last is.span)

-- and so are those of a track, as it stands at the end
filters-within : (draft : Draft) → All IsPending draft.filters → All IsAttached (filters_of (track_of draft))
filters-within draft are =
    let frames = frames_in draft.entries in
    All-map IsAttached (attached_within frames) draft.filters
    (All-weaker IsPending (λ filter. IsAttached (attached_within frames filter)) (attached-within frames) draft.filters are)

-- and what is planted on the tracks
few-within : (frames first : ℕ) (last : Option ℕ) → frames < 2 ^ 31 → IsOpenSpan first last → span_frames (span_within frames first last) < 2 ^ 32
few-within frames first None short is = omega (arith, short)
few-within frames first (Some end) short is = omega (arith, is.1)

plant-within : (frames : ℕ) → frames < 2 ^ 31 → (plant : PendingPlant) → IsPlanned plant → IsPlant (plant_within frames plant)
plant-within frames short (OnTrack track spec first last) is = (is.0, span-within frames first last is.1)
plant-within frames short (Between a b spec first last) is = (is.0, span-within frames first last is.1, few-within frames first last short is.1)

level-short : (drafts : List Draft) (most : ℕ) → most < 2 ^ 31 → AllByRecursion (λ (draft : Draft). IsList draft.entries) drafts → fold (λ most (draft : Draft). max most (frames_in draft.entries)) most drafts < 2 ^ 31
level-short [] most short lists = short
level-short (draft ∷ drafts) most short lists = level-short drafts (max most (frames_in draft.entries)) (omega (arith, short, lists.0.short)) lists.1

plants-within : (level : Level) → IsLevel level → All (λ draft. IsList draft.entries) (drafts_of level) → All IsPlant (map (plant_within (level_frames level)) level.plants)
plants-within level is lists =
    let frames = level_frames level in
    let short = level-short (drafts_of level) 0 (omega arith) (recursion_from_All (λ draft. IsList draft.entries) (drafts_of level) lists) in
    All-map IsPlant (plant_within frames) level.plants
    (All-weaker IsPlanned (λ plant. IsPlant (plant_within frames plant)) (plant-within frames short) level.plants is.plants)

-- a plant that is not misplaced is on tracks that are there
on-tracks : (tracks frames : ℕ) (plant : PendingPlant) → misplaced tracks plant ≡ None → IsOnTracks tracks (plant_within frames plant)
on-tracks tracks frames (OnTrack track spec first last) is = on-track track tracks is
on-tracks tracks frames (Between a b spec first last) is = on-both a b tracks is

placed : (tracks from frames : ℕ) (plants : List PendingPlant) → first_misplaced tracks from plants ≡ None → AllByRecursion (IsOnTracks tracks) (map (plant_within frames) plants)
placed tracks from frames [] is = tt
placed tracks from frames (plant ∷ plants) is =
    let both = parted-none from (misplaced tracks plant) (first_misplaced tracks (from + 1) plants) is in
    (on-tracks tracks frames plant both.0, placed tracks (from + 1) frames plants both.1)

-- what holds of all tracks holds of the closed ones, and of the last
parted : (P : Draft → Type 0) (closed : List Draft) (last : Draft) → AllByRecursion P (closed ++ last ∷ []) → AllByRecursion P closed × P last
parted P [] last all = (tt, all.0)
parted P (draft ∷ closed) last all = let rest = parted P closed last all.1 in ((all.0, rest.0), rest.1)

pub all-closed : (P : Draft → Type 0) (level : Level) → All P (drafts_of level) → All P level.closed
all-closed P level all =
    All-from_recursion P level.closed (parted P level.closed level.current (recursion_from_All P (drafts_of level) all)).0

pub all-last : (P : Draft → Type 0) (level : Level) → All P (drafts_of level) → P level.current
all-last P level all = (parted P level.closed level.current (recursion_from_All P (drafts_of level) all)).1

all-pending : (level : Level) → IsLevel level → All (λ draft. All IsPending draft.filters) (drafts_of level)
all-pending level is =
    All-push (λ draft. All IsPending draft.filters) level.closed level.current
    (All-weaker IsFinished (λ draft. All IsPending draft.filters) (λ draft finished. finished.filters) level.closed is.closed) is.filters

-- where the entries of the tracks begin
begins : (drafts : List Draft) → map (λ (draft : Draft). map frames draft.entries) drafts ≡ map (map frames) (map entries_of (map track_of drafts))
begins [] = refl
begins (draft ∷ drafts) = ap (λ all. map frames draft.entries ∷ all) (begins drafts)

pub starts-are : (level : Level) → map (λ (draft : Draft). map frames draft.entries) (drafts_of level) ≡ starts_in (tractor_of level).body
starts-are level = begins (drafts_of level)

-- the last one too is a playlist's entries, with filters that can act on them
pub all_finished : (level : Level) → IsLevel level → IsList level.current.entries → All IsFinished (drafts_of level)
all_finished level is list =
    All-push IsFinished level.closed level.current is.closed (record { list = list; filters = is.filters })

pub lists-are : (level : Level) → IsLevel level → IsList level.current.entries → All (λ draft. IsList draft.entries) (drafts_of level)
lists-are level is list =
    All-weaker IsFinished (λ draft. IsList draft.entries) (λ draft finished. finished.list) (drafts_of level) (all_finished level is list)

-- the tractor as it is made
pub body-is : (level : Level) (tracks : List TrackOf) (plants : List Plant) → tracks ≡ map track_of (drafts_of level) → plants ≡ map (plant_within (level_frames level)) level.plants
    → Tractor tracks plants ≡ (tractor_of level).body
body-is level tracks plants made planted =
    ap (λ ts. Tractor ts plants) made ∙ ap (Tractor (map track_of (drafts_of level))) planted

-- the size of all is that of the closed ones, with the last one over them
pub drafts_size-last : (table : List Size) (level : Level)
    → over_size (drafts_size table level.closed) (entries_size table level.current.entries) ≡ drafts_size table (drafts_of level)
drafts_size-last table level =
    sym (fold_push (λ size draft. over_size size (entries_size table draft.entries)) nothing level.closed level.current)

-- ---- their tractor

-- no track is longer than a playlist can be
longest-short : (units : ℕ → Tree) (drafts : List Draft) → AllByRecursion (λ (draft : Draft). IsList draft.entries) drafts
    → longest (tracks_of units (map track_of drafts)) < 2 ^ 31
longest-short units [] lists = omega arith
longest-short units (draft ∷ drafts) lists = omega (arith, len_in-frames units draft.entries, lists.0.short, longest-short units drafts lists.1)

-- what is known of a level's tractor, from the size of its tracks
pub record IsTractor (us : List Node) (level : Level) (tracks : Size) : Type 0 where
  pub below : level_misplaced level ≡ None → IsBodyBelow (length us) (tractor_of level).body
  pub frames : tracks.length ≢ 0 → HasLength (node_tree (tree_of us) (tractor_of level))
  pub size : tractor_size (length (drafts_of level)) tracks ≡ size_of (node_tree (tree_of us) (tractor_of level)) (body_depth (depth_of us) (tractor_of level).body)
  pub length : tracks.length ≡ len (node_tree (tree_of us) (tractor_of level))

module _ (us : List Node) (sizes : List Size) (level : Level) (sized : IsSized us sizes) (is : IsLevel level)
    (below : All (λ draft. All (IsEntryBelow (length us)) draft.entries) (drafts_of level)) (lists : All (λ draft. IsList draft.entries) (drafts_of level)) where
  -- the entries are of the graph's units, and in their ranges
  ranged : All (λ draft. AreEntriesBelow (length us) draft.entries) (drafts_of level)
  ranged = λ k d within. record { below = below k d within; ranges = (lists k d within).entries }

  pub ranged-in : All (λ draft. AreEntriesBelow (length sizes) draft.entries) (drafts_of level)
  ranged-in = subst (λ (n : ℕ). All (λ draft. AreEntriesBelow n draft.entries) (drafts_of level)) (sym sized.long) ranged

  abbrev planted : List Plant
  planted = map (plant_within (level_frames level)) level.plants

  track-count : length (map track_of (drafts_of level)) ≡ length (drafts_of level)
  track-count = length-map (drafts_of level) track_of

  tractor-below : level_misplaced level ≡ None → IsBodyBelow (length us) (tractor_of level).body
  tractor-below on_tracks = record {
    some = omega (arith, track-count, length-append level.closed (level.current ∷ []));
    tracks_below = All-map (IsTrackBelow (length us)) track_of (drafts_of level) (λ k d within. record {
      entries = ranged k d within;
      filters = filters-within (get_or (drafts_of level) k d) (all-pending level is k d within);
    });
    ranges = plants-within level is lists;
    on_tracks = subst (λ (n : ℕ). All (IsOnTracks n) planted) (sym track-count)
        (All-from_recursion (IsOnTracks (length (drafts_of level))) planted (placed (length (drafts_of level)) 0 (level_frames level) level.plants on_tracks));
  }

  tractor-size : tractor_size (length (drafts_of level)) (drafts_size sizes (drafts_of level))
      ≡ size_of (node_tree (tree_of us) (tractor_of level)) (body_depth (depth_of us) (tractor_of level).body)
  tractor-size =
      tractor_size-is sizes (tree_of us) (depth_of us) sized.told (drafts_of level) (map (plant_within (level_frames level)) level.plants)
      (λ k d within. (ranged-in k d within).below)

  tractor-short : len (node_tree (tree_of us) (tractor_of level)) < 2 ^ 31
  tractor-short = longest-short (tree_of us) (drafts_of level) (recursion_from_All (λ draft. IsList draft.entries) (drafts_of level) lists)

  -- the length in the size of the tracks is the tractor's
  tractor-length : (drafts_size sizes (drafts_of level)).length ≡ len (node_tree (tree_of us) (tractor_of level))
  tractor-length = ap (λ (s : Size). s.length) tractor-size ∙ omega (arith, tractor-short)

  pub tractor-is : IsTractor us level (drafts_size sizes (drafts_of level))
  tractor-is = record {
    below = tractor-below;
    length = tractor-length;
    frames = λ some. record { some = omega (arith, tractor-length, some); short = tractor-short };
    size = tractor-size;
  }
