-- The profile of a composition, and its end: its tree, whether there is something to play, and not too much of it.
use Rattle.std.specs.Prelude.{ℕ, ◌+◌, ◌-◌, ◌*◌, ◌/◌, nat_le, nat_eq, max, if◌then◌else◌, List, [], ◌∷◌, ◌++◌, length, Option, None, Some, unwrap_or, Result, Ok, codes}
use Rattle.std.specs.List.{zip}
use Rattle.mlt_base.specs.Profile.{Measures}
use Rattle.mlt_base.specs.Samples.{most_samples}
use Rattle.mlt_base.specs.declared.limits.TheConstants as limit
use Rattle.mlt_base.specs.Steps.{◌>>=◌}
use Rattle.mlt_tree.specs.declared.draft.PendingPlant.{PendingPlant}
use Rattle.mlt_tree.specs.declared.group.Group.{Group}
use Rattle.mlt_tree.specs.declared.node.Node.{Node}
use Rattle.mlt_tree.specs.declared.refusal.Cause.TheVariants as cause
use Rattle.mlt_tree.specs.declared.refusal.Refusal.{Refusal}
use Rattle.mlt_tree.specs.Clips.{Cut, cut_of}
use Rattle.mlt_tree.specs.declared.services.TheConstants as row
use Rattle.mlt_tree.specs.Composition.{Consumer, State, profile_named, default_profile}
use Rattle.mlt_tree.specs.Refusing.{refuse, over}
use Rattle.mlt_tree.specs.Show.{Show, Settings, Source, Rgb, S16, pixels_of}
use Rattle.mlt_tree.specs.Sizes.{need, weight}
use Rattle.mlt_tree.specs.Tree.{Tree, len}
use Rattle.mlt_tree.specs.Unbuilt.{built_step}
use Rattle.mlt_tree.specs.Units.{tree_of, depth_of, tractor_of, drafts_of, Misplaced, OffTracks, Doubled, misplaced}

-- ---- the profile, which the first `-profile` gives

-- what is not built is refused first
unfoldable pub profiled : List Group → Result Measures Refusal
profiled gs = do
  all ← over built_step tt gs
  profile ← profile_named gs
  Ok (unwrap_or profile default_profile)

-- ---- the end

-- the units of a whole composition: the last one is the tractor
abbrev pub all_units : State → List Node
all_units s = s.made.units ++ tractor_of s.level ∷ []

abbrev pub whole_tree : State → Tree
whole_tree s = tree_of (all_units s) (length s.made.units)

-- `raw:-` with the defaults, where no consumer stands
abbrev pub default_consumer : Consumer
default_consumer = record {
  place = 0;
  video = codes "-";
  pix = Rgb;
  workers = 0;
  buffer = row.BUFFER.default;
  slices = row.SLICES.default;
  cache = row.CACHE.default;
  first = None;
  last = None;
}

-- the bytes of one picture, or of so many pairs of channels in a frame's sound, whichever is more
abbrev pub unit_of : Measures → (pairs : ℕ) → ℕ
unit_of profile pairs = max (pixels_of profile * 4) (4 * pairs * most_samples profile.num profile.den)

-- the channels of a consumer's sound
abbrev pub channels_of : Consumer → ℕ
channels_of c = 2

-- channels go in pairs, of which the last may have one
abbrev pub pairs_of : (channels : ℕ) → ℕ
pairs_of channels = (channels + 1) / 2

-- the bytes that a run holds at most
abbrev pub bytes_of : Measures → Consumer → ℕ → ℕ
bytes_of profile c need = unit_of profile (pairs_of (channels_of c)) * (c.buffer + (c.workers + 1) * need + c.cache)

-- no sound is written yet
abbrev pub settings_of : Consumer → Cut → Settings
settings_of c range = record {
  video = c.video;
  audio = None;
  pix = c.pix;
  first = range.first;
  last = range.last;
  workers = c.workers;
  buffer = c.buffer;
  slices = c.slices;
  cache = c.cache;
  channels = channels_of c;
  format = S16;
}

-- the positions that are written: in the consumer's place, from its first to its last
abbrev pub range_of : Consumer → ℕ → Result Cut Refusal
range_of c length = cut_of c.place length (unwrap_or c.first 0) c.last

abbrev pub few_frames : ℕ → Cut → Result Cut Refusal
few_frames count range =
    let frames = range.last + 1 - range.first in
    if nat_le frames limit.MOST_WRITTEN then Ok range else refuse count (cause.TooLong frames)

abbrev pub few_bytes : ℕ → ℕ → Cut → Result Cut Refusal
few_bytes count bytes range = if nat_le bytes limit.MOST_BYTES then Ok range else refuse count (cause.TooLarge bytes)

-- what is wrong with a plant is refused at the place of its group
abbrev pub refuse_plant : (place tracks : ℕ) → Option Misplaced → Result (Unit {0}) Refusal
refuse_plant place tracks None = Ok tt
refuse_plant place tracks (Some (OffTracks track)) = refuse place (cause.BadTrack track tracks)
refuse_plant place tracks (Some (Doubled track)) = refuse place (cause.SameTrack track)

-- each of these plants, with the place of its group, is on tracks that are there, of so many
abbrev pub each_on_tracks : (tracks : ℕ) → List (ℕ × PendingPlant) → Result (Unit {0}) Refusal
each_on_tracks tracks plants = over (λ done plant. refuse_plant plant.0 tracks (misplaced tracks plant.1)) tt plants

abbrev pub plants_placed : State → Result (Unit {0}) Refusal
plants_placed s = each_on_tracks (length (drafts_of s.level)) (zip s.plant_places s.level.plants)

-- something is played
abbrev pub some_frames : ℕ → Tree → Result (Unit {0}) Refusal
some_frames count t = if nat_eq (len t) 0 then refuse count cause.NoProducer else Ok tt

abbrev pub not_deep : ℕ → (depth : ℕ) → Result (Unit {0}) Refusal
not_deep count depth = if nat_le depth limit.MOST_DEPTH then Ok tt else refuse count (cause.TooDeep depth)

abbrev pub not_heavy : ℕ → Tree → Result (Unit {0}) Refusal
not_heavy count t = if nat_le (weight t) limit.MOST_WEIGHT then Ok tt else refuse count (cause.TooMany limit.MOST_WEIGHT)

-- a tree on the positions that the consumer writes
abbrev pub show_on : Measures → Consumer → List Source → Tree → Cut → Show
show_on profile c sources t range =
    record { profile = profile; sources = sources; tree = t; output = settings_of c range }

-- what is written of a tree: a range within it, not too many frames, not too many bytes
unfoldable pub ranged : ℕ → Measures → Consumer → Tree → Result Cut Refusal
ranged count profile c t = do
  range ← range_of c (len t)
  short ← few_frames count range
  few_bytes count (bytes_of profile c (need t)) short

-- a unit with frames, not nested too deep, not too heavy
unfoldable pub sealable : ℕ → List Node → (top : ℕ) → Result (Unit {0}) Refusal
sealable count units top = do
  some ← some_frames count (tree_of units top)
  shallow ← not_deep count (depth_of units top)
  not_heavy count (tree_of units top)

-- a tree at the end of so many words, on the positions that the consumer writes
unfoldable pub show_of_tree : ℕ → State → Tree → Result Show Refusal
show_of_tree count s t = do
  range ← ranged count s.profile (unwrap_or s.consumer default_consumer) t
  Ok (show_on s.profile (unwrap_or s.consumer default_consumer) s.made.sources t range)

-- at the end of so many words
unfoldable pub seal : ℕ → State → Result Show Refusal
seal count s = do
  on_tracks ← plants_placed s
  whole ← sealable count (all_units s) (length s.made.units)
  show_of_tree count s (whole_tree s)
