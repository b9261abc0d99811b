-- Tracks whose tractor is not made yet, tried on a small level: each line is checked by computing both of its sides.
use Rattle.std.specs.Prelude.{◌≡◌, refl, true, false, List, [], ◌∷◌, ◌++◌, None, Some, Ok}
use Rattle.mlt_base.specs.Span.{span}
use Rattle.mlt_tree.specs.declared.draft.PendingPlant.{PendingPlant}
use Rattle.mlt_tree.specs.declared.draft.PendingPlant.TheVariants as pending
use Rattle.mlt_tree.specs.declared.entry.Entry.TheVariants.{Gap}
use Rattle.mlt_tree.specs.declared.filter.FilterSpec.TheVariants.{Invert}
use Rattle.mlt_tree.specs.declared.merge.MergeSpec.TheVariants.{Matte}
use Rattle.mlt_tree.specs.declared.node.Body.TheVariants.{Tractor}
use Rattle.mlt_tree.specs.declared.node.Track.TheVariants.{Playlist}
use Rattle.mlt_tree.specs.declared.tree.Hide.{Hide}
use Rattle.mlt_tree.specs.declared.tree.Plant.TheVariants.{OnTrack, Between}
use Rattle.mlt_tree.specs.Units.{Level, tractor_of, level_frames, level_misplaced, new_track, seen, OffTracks, Doubled}

-- a track of three frames with filters, under one of five, with plants
abbrev two_tracks : Level
two_tracks = record {
  closed = record {
    entries = Gap 1 ∷ Gap 2 ∷ [];
    filters = record { spec = Invert; first = 1; last = None } ∷ record { spec = Invert; first = 9; last = None } ∷ record { spec = Invert; first = 0; last = Some 8 } ∷ [];
    hide = record { video = false; audio = false };
  } ∷ [];
  current = record { entries = Gap 5 ∷ []; filters = []; hide = record { video = false; audio = false } };
  plants = pending.OnTrack 0 Invert 1 None ∷ pending.Between 0 1 Matte 6 None ∷ pending.Between 0 1 Matte 0 (Some 2) ∷ [];
}

longest_track : level_frames two_tracks ≡ 5
longest_track = refl

-- a last that was not given is the track's, or the tractor's, but not before the first
lasts_filled_in : (tractor_of two_tracks).body ≡ Tractor (Playlist (Gap 1 ∷ Gap 2 ∷ []) (record { spec = Invert; span = span 1 2 } ∷ record { spec = Invert; span = span 9 9 } ∷ record { spec = Invert; span = span 0 8 } ∷ []) seen ∷ Playlist (Gap 5 ∷ []) [] seen ∷ []) (OnTrack 0 Invert (span 1 4) ∷ Between 0 1 Matte (span 6 6) ∷ Between 0 1 Matte (span 0 2) ∷ [])
lasts_filled_in = refl

-- ---- tracks that begin

abbrev hidden : Hide
hidden = record { video = true; audio = true }

-- a third track, above the two
third : new_track two_tracks hidden ≡ Ok (record two_tracks { closed = two_tracks.closed ++ two_tracks.current ∷ []; current = record { entries = []; filters = []; hide = hidden } })
third = refl

-- a track without an entry stays, and gets the hide
stays : new_track (record two_tracks { current = record { entries = []; filters = record { spec = Invert; first = 0; last = None } ∷ []; hide = seen } }) hidden
    ≡ Ok (record two_tracks { current = record { entries = []; filters = record { spec = Invert; first = 0; last = None } ∷ []; hide = hidden } })
stays = refl

-- ---- plants that are on no track

abbrev with_plants : List PendingPlant → Level
with_plants plants = record two_tracks { plants = plants }

all_placed : level_misplaced two_tracks ≡ None
all_placed = refl

-- the third plant is on track 2 of 2; of a merge a is tried first, then b, then whether they are the same
off_tracks : level_misplaced (with_plants (pending.OnTrack 1 Invert 0 None ∷ pending.Between 0 1 Matte 0 None ∷ pending.OnTrack 2 Invert 0 None ∷ [])) ≡ Some (2, OffTracks 2)
off_tracks = refl

a_first : level_misplaced (with_plants (pending.Between 3 2 Matte 0 None ∷ [])) ≡ Some (0, OffTracks 3)
a_first = refl

then_b : level_misplaced (with_plants (pending.Between 1 2 Matte 0 None ∷ [])) ≡ Some (0, OffTracks 2)
then_b = refl

then_both : level_misplaced (with_plants (pending.Between 1 1 Matte 0 None ∷ [])) ≡ Some (0, Doubled 1)
then_both = refl
