-- Tracks, mixes, and what words plant on them: each line is checked by computing both of its sides.
use Rattle.std.specs.Prelude.{ℕ, ◌≡◌, pos, refl, true, false, List, [], ◌∷◌, ◌++◌, None, Some, Result, Ok, Err, codes}
use Rattle.mlt_base.specs.declared.table.TheConstants.{DV_PAL}
use Rattle.mlt_base.specs.Decimal.{decimal, decimal_parts, fraction_at, point_at}
use Rattle.mlt_base.specs.Geometry.{geometry, corner, area, shape, offset, extent, near_zero, counted as counted_in}
use Rattle.mlt_base.specs.Profile.{row_measures}
use Rattle.mlt_base.specs.Reading.{digits_at, end_at, below, held}
use Rattle.mlt_base.specs.SplitOnce.{split_once}
use Rattle.mlt_base.specs.Time.{time, form_of, behind_first}
use Rattle.mlt_base.specs.Whole.{whole, digits_to_end, positive}
use Rattle.mlt_tree.specs.declared.draft.PendingPlant.{PendingPlant}
use Rattle.mlt_tree.specs.declared.draft.PendingPlant.TheVariants.{OnTrack, Between}
use Rattle.mlt_tree.specs.declared.entry.Entry.{Entry}
use Rattle.mlt_tree.specs.declared.filter.FilterSpec.TheVariants.{Invert}
use Rattle.mlt_tree.specs.declared.group.Group.{Group}
use Rattle.mlt_tree.specs.declared.group.GroupKind.TheVariants.{Transition}
use Rattle.mlt_tree.specs.declared.group.Prop.{Prop}
use Rattle.mlt_tree.specs.declared.merge.MergeSpec.{MergeSpec}
use Rattle.mlt_tree.specs.declared.merge.MergeSpec.TheVariants.{Luma, Composite, Matte}
use Rattle.mlt_tree.specs.declared.refusal.Cause.TheVariants.{Unsupported, UnknownService, BadValue, TooFew, BadRange, NoMix, BadTrack, SameTrack}
use Rattle.mlt_tree.specs.declared.refusal.Refusal.{Refusal}
use Rattle.mlt_tree.specs.declared.tree.SourceKind.TheVariants.{Colour}
use Rattle.mlt_tree.specs.Attaching.{asked_by, spec_of}
use Rattle.mlt_tree.specs.Composition.{State, begun, with_track, track}
use Rattle.mlt_tree.specs.Edits.{clip}
use Rattle.mlt_tree.specs.Loaded.{picture_loaded, file_within}
use Rattle.mlt_tree.specs.Loading.{Stop, Refused, Missing, Read, no_files}
use Rattle.mlt_tree.specs.Merging.{transition, merge_planted, mixer, merge_mixed, merge_made, luma_made, map_made}
use Rattle.mlt_tree.specs.Planting.{begin_track, mix, plant_filter, filter_planted, crossing}
use Rattle.mlt_tree.specs.Props.{counted, timed, shared, placed}
use Rattle.mlt_tree.specs.Refusing.{refuse, refusal_at}
use Rattle.mlt_tree.specs.Sealing.{plants_placed}
use Rattle.mlt_tree.specs.Unbuilt.{merge_built}
use Rattle.mlt_tree.specs.Units.{empty_draft, seen, source_unit, mix_unit}

-- a track of these entries, where unit 0 is a colour, over so many other tracks
abbrev over : List Entry → List Entry → State
over below entries = with_track (record (begun (row_measures DV_PAL) 9) {
  made = record { units = source_unit (record { 0 = 0 }) Colour 15000 ∷ []; sources = []; loaded = 0; words = 9 };
  level = record { closed = record (empty_draft seen) { entries = below } ∷ []; current = empty_draft seen; plants = [] };
}) entries

abbrev two_clips : List Entry
two_clips = clip 0 0 2 [] ∷ clip 0 5 7 [] ∷ []

abbrev two_tracks : State
two_tracks = over two_clips (clip 0 0 4 [] ∷ [])

-- the word of a group at place 6
abbrev word : List ℕ → List Prop → Group
word arg props = record { place = 6; kind = Transition; arg = arg; props = props }

abbrev given : ℕ → List ℕ → List ℕ → Prop
given place name value = record { place = place; name = name; value = value }

-- ---- tracks

begins_a_track : begin_track true false (record two_tracks { last_mix = Some 0 }) (word [] [])
    ≡ Ok (record two_tracks { level = record { closed = two_tracks.level.closed ++ two_tracks.level.current ∷ []; current = empty_draft (record { video = true; audio = false }); plants = [] } })
unfolding begin_track
begins_a_track = refl

-- a track without an entry stays, with its last mix, and gets the hide
hides_the_track : begin_track true true (record (over two_clips []) { last_mix = Some 0 }) (word [] [])
    ≡ Ok (record (over two_clips []) { level = record { closed = two_tracks.level.closed; current = empty_draft (record { video = true; audio = true }); plants = [] }; last_mix = Some 0 })
unfolding begin_track
hides_the_track = refl

-- ---- mixes

-- the last two frames of the first and the first two of the second overlap, by unit 1
mixes : mix (over [] two_clips) (word (codes "2") []) ≡ Ok (record (over [] (clip 0 0 0 [] ∷ clip 1 0 1 [] ∷ clip 0 7 7 [] ∷ [])) {
  made = record { units = source_unit (record { 0 = 0 }) Colour 15000 ∷ mix_unit (clip 0 1 2 []) (clip 0 5 6 []) 2 ∷ []; sources = []; loaded = 0; words = 9 };
  last_mix = Some 1;
})
unfolding mix counted whole digits_to_end digits_at end_at positive below held
mixes = refl

one_clip_is_too_few : mix (over [] (clip 0 0 2 [] ∷ [])) (word (codes "1") []) ≡ refuse 6 (TooFew 2 1)
unfolding mix counted whole digits_to_end digits_at end_at positive below held
one_clip_is_too_few = refl

no_mix : (mixer no_files two_tracks (word (codes "matte") [])).end ≡ Err (Refused (refusal_at 6 NoMix))
unfolding mixer merge_mixed merge_made split_once
no_mix = refl

-- ---- filters and merges on tracks

-- what is planted, once a word is read
abbrev plants_of : Result State Refusal → Result (List PendingPlant) Refusal
plants_of (Ok s) = Ok s.level.plants
plants_of (Err refusal) = Err refusal

abbrev planted_by : Read State → Result (List PendingPlant) Stop
planted_by read = by read.end where
  by : Result State Stop → Result (List PendingPlant) Stop
  by (Ok s) = Ok s.level.plants
  by (Err stop) = Err stop

on_the_current_track : plants_of (plant_filter two_tracks (word (codes "invert") [])) ≡ Ok (OnTrack 1 Invert 0 None ∷ [])
unfolding plant_filter filter_planted asked_by spec_of split_once
on_the_current_track = refl

on_a_named_track : plants_of (plant_filter two_tracks (word (codes "invert") (given 8 (codes "track") (codes "0") ∷ []))) ≡ Ok (OnTrack 0 Invert 0 None ∷ [])
unfolding plant_filter filter_planted asked_by spec_of split_once counted whole digits_to_end digits_at end_at positive below held
on_a_named_track = refl

-- from the current track to the one below it
between_both : planted_by (transition no_files two_tracks (word (codes "matte") [])) ≡ Ok (Between 0 1 Matte 0 None ∷ [])
unfolding transition merge_planted merge_made crossing split_once
between_both = refl

-- on the first track there is none below it, and the end will refuse that
same_track : planted_by (transition no_files (over [] []) (word (codes "matte") (given 8 (codes "b_track") (codes "0") ∷ []))) ≡ Ok (Between 0 0 Matte 0 None ∷ [])
unfolding transition merge_planted merge_made crossing split_once counted whole digits_to_end digits_at end_at positive below held
same_track = refl

backwards : planted_by (transition no_files two_tracks (word (codes "matte") (given 8 (codes "in") (codes "3") ∷ given 9 (codes "out") (codes "1") ∷ []))) ≡ Err (Refused (refusal_at 6 (BadRange 3 1 0)))
unfolding transition merge_planted merge_made crossing split_once timed time form_of behind_first digits_at end_at below held
backwards = refl

-- ---- properties of merges

abbrev asks : List ℕ → List Prop → Result MergeSpec Stop → Type 0
asks arg props answer = by (planted_by (transition no_files two_tracks (word arg props))) ≡ answer where
  spec_in : PendingPlant → Result MergeSpec Stop
  spec_in (OnTrack track spec first last) = Err (Missing 0)
  spec_in (Between a b spec first last) = Ok spec

  by : Result (List PendingPlant) Stop → Result MergeSpec Stop
  by (Ok []) = Err (Missing 0)
  by (Ok (plant ∷ plants)) = spec_in plant
  by (Err stop) = Err stop

dissolve : asks (codes "luma") [] (Ok (Luma None (record { 0 = 0 })))
unfolding transition merge_planted merge_made luma_made map_made crossing split_once
dissolve = refl

softest : asks (codes "luma") (given 8 (codes "softness") (codes "1") ∷ []) (Ok (Luma None (record { 0 = 65536 })))
unfolding transition merge_planted merge_made luma_made map_made crossing split_once shared decimal decimal_parts fraction_at point_at below held
softest = refl

too_soft : asks (codes "luma") (given 8 (codes "softness") (codes "1.1") ∷ []) (Err (Refused (refusal_at 8 BadValue)))
unfolding transition merge_planted merge_made luma_made map_made crossing split_once shared decimal decimal_parts fraction_at point_at below held
too_soft = refl

-- a map is a file, which is looked up for the word
no_map : asks (codes "luma:m.ppm") [] (Err (Missing 6))
unfolding transition merge_planted merge_made luma_made map_made picture_loaded file_within crossing split_once
no_map = refl

abbrev rectangle : (x y width height opacity : ℕ) → MergeSpec
rectangle x y width height opacity =
    Composite (record { x = pos x; y = pos y; width = width; height = height; opacity = opacity })

-- the profile has 720 by 576 pixels
whole_frame : asks (codes "composite") [] (Ok (rectangle 0 0 720 576 100))
unfolding transition merge_planted merge_made crossing split_once placed geometry corner shape area offset extent near_zero counted_in whole digits_to_end digits_at end_at positive below held
whole_frame = refl

in_the_middle : asks (codes "composite:25%/25%:50%x50%:50") [] (Ok (rectangle 180 144 360 288 50))
unfolding transition merge_planted merge_made crossing split_once placed geometry corner shape area offset extent near_zero counted_in whole digits_to_end digits_at end_at positive below held
in_the_middle = refl

no_rectangle : asks (codes "composite:25%") [] (Err (Refused (refusal_at 6 BadValue)))
unfolding transition merge_planted merge_made crossing split_once placed geometry
no_rectangle = refl

unknown : asks (codes "wipe") [] (Err (Refused (refusal_at 6 UnknownService)))
unfolding transition split_once
unknown = refl

later_merge : merge_built (word (codes "sum") []) ≡ refuse 6 Unsupported
unfolding split_once
later_merge = refl

-- ---- plants that are on no track, at the end

abbrev with_plant_of : State → PendingPlant → State
with_plant_of s plant = record s { level = record s.level { plants = plant ∷ [] }; plant_places = 6 ∷ [] }

no_such_track : plants_placed (with_plant_of (over [] []) (Between 0 2 Matte 0 None)) ≡ refuse 6 (BadTrack 2 2)
no_such_track = refl

with_itself : plants_placed (with_plant_of (over [] []) (Between 0 0 Matte 0 None)) ≡ refuse 6 (SameTrack 0)
with_itself = refl
