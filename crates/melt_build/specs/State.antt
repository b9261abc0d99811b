-- What a composition as far as it is read means.
use Rattle.std.specs.Prelude.{ℕ, ◌≡◌, ◌<◌, ◌≤◌, ◌^◌, List, length, get_or, All, IfSome}
use Rattle.std.specs.Option.{option_map}
use Rattle.mlt_tree.specs.declared.limits.TheConstants.{MOST_LOADED}
use Rattle.mlt_base.specs.ProfileView.{measures_of}
use Rattle.mlt_tree.specs.declared.draft.Draft.{Draft}
use Rattle.mlt_tree.specs.declared.draft.PendingPlant.{PendingPlant}
use Rattle.mlt_tree.specs.declared.draft.PendingPlant.TheVariants.{OnTrack, Between}
use Rattle.mlt_tree.specs.declared.entry.Entry.{Entry}
use Rattle.mlt_tree.specs.declared.entry.Entry.TheVariants.{Clip, Gap}
use Rattle.mlt_tree.specs.declared.node.Node.{Node}
use Rattle.mlt_tree.specs.Clips as clip
use Rattle.mlt_tree.specs.Composition as meaning
use Rattle.mlt_tree.specs.Show.{Source}
use Rattle.mlt_tree.specs.Sources.{FitsBody, HasPicture, maps_of_merge}
use Rattle.mlt_tree.specs.Units.{Level, IsEntryBelow, IsMix}
use Rattle.mlt_graph.specs.Show.{pix_of}
use Rattle.melt_build.specs.declared.consumer.Consumer.{Consumer}
use Rattle.melt_build.specs.declared.wanted.Cut.{Cut}
use Rattle.melt_build.specs.declared.state.Made.{Made}
use Rattle.melt_build.specs.declared.state.State.{State}

abbrev pub consumer_view : Consumer → meaning.Consumer
consumer_view c = record {
  place = c.place;
  video = c.video.now;
  pix = pix_of c.pix;
  workers = c.workers;
  buffer = c.buffer;
  slices = c.slices;
  cache = c.cache;
  first = c.first;
  last = c.last;
}

abbrev pub cut_view : Cut → clip.Cut
cut_view c = record { first = c.first; last = c.last }

abbrev pub made_view : Made → meaning.Made
made_view made = record { units = made.graph; sources = made.table; loaded = made.loaded; words = made.words }

abbrev pub state_view : State → meaning.State
state_view s = record {
  profile = measures_of s.profile;
  made = made_view s.made;
  level = s.level;
  plant_places = s.plant_places.items;
  inherited = s.inherited.words.now;
  last_mix = option_map (λ unit. unit.0) s.last_mix;
  consumer = option_map consumer_view s.consumer;
}

-- ---- what holds of a composition that is read

-- the table has what each unit names
abbrev pub FitsUnits : List Source → List Node → Type 0
FitsUnits table units =
    (unit : ℕ) (node : Node) → unit < length units → node ≡ get_or units unit node → FitsBody table node.body

-- a cut ends before frame 2^31
abbrev pub IsShortEntry : Entry → Type 0
IsShortEntry (Clip unit span filters) = span.last.0 < 2 ^ 31
IsShortEntry (Gap frames) = Unit {0}

-- a cut of a unit that is there, or a gap
pub record IsKnown (count : ℕ) (e : Entry) : Type 0 where
  pub below : IsEntryBelow count e
  pub short : IsShortEntry e

abbrev pub IsKnownDraft : ℕ → Draft → Type 0
IsKnownDraft count draft = All (IsKnown count) draft.entries

-- the table has the map of a plant, where it has one
abbrev pub HasMap : List Source → PendingPlant → Type 0
HasMap table (OnTrack track spec first last) = Unit {0}
HasMap table (Between a b spec first last) = All (HasPicture table) (maps_of_merge spec)

-- tracks of such entries, and plants whose maps are in the table
pub record IsKnownLevel (count : ℕ) (table : List Source) (level : Level) : Type 0 where
  pub closed : All (IsKnownDraft count) level.closed
  pub current : IsKnownDraft count level.current
  pub maps : All (HasMap table) level.plants

-- units and sources that fit each other, and not too many bytes loaded
pub record IsMade (made : Made) : Type 0 where
  pub few : made.loaded ≤ MOST_LOADED
  pub fits : FitsUnits made.table made.graph

-- the last mix is a unit that is one, and each plant has the place of its group
pub record IsComposed (s : State) : Type 0 where
  pub made : IsMade s.made
  pub level : IsKnownLevel (length s.made.graph) s.made.table s.level
  pub mix : IfSome s.last_mix (λ unit. IsMix s.made.graph unit.0)
  pub placed : length s.plant_places.items ≡ length s.level.plants

-- what was made stays there: units, those that are mixes, and pictures
pub record IsMore (old new : Made) : Type 0 where
  pub units : length old.graph ≤ length new.graph
  pub mixes : (unit : ℕ) → IsMix old.graph unit → IsMix new.graph unit
  pub pictures : (source : ℕ) → HasPicture old.table source → HasPicture new.table source
