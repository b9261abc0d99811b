-- A composition as far as its words are read, and what one group does to it.
use Rattle.std.specs.Prelude.{ℕ, ℤ, ◌-◌, Bool, true, false, List, [], ◌∷◌, ◌++◌, length, Option, None, Some, Result, Ok}
use Rattle.mlt_base.specs.declared.limits.TheConstants.{MOST_ENTRIES}
use Rattle.mlt_base.specs.declared.table.TheConstants.{DV_PAL}
use Rattle.mlt_base.specs.Profile.{Measures, row_measures, profile}
use Rattle.mlt_base.specs.Steps.{◌>>=◌}
use Rattle.mlt_base.specs.Whole.{whole}
use Rattle.mlt_tree.specs.declared.entry.Entry.{Entry}
use Rattle.mlt_tree.specs.declared.group.Group.{Group}
use Rattle.mlt_tree.specs.declared.group.GroupKind.TheVariants as kind
use Rattle.mlt_tree.specs.declared.group.Prop.{Prop}
use Rattle.mlt_tree.specs.declared.node.Node.{Node}
use Rattle.mlt_tree.specs.declared.refusal.Cause.TheVariants as cause
use Rattle.mlt_tree.specs.declared.refusal.Refusal.{Refusal}
use Rattle.mlt_tree.specs.declared.services.TheConstants as row
use Rattle.mlt_tree.specs.Edits as edit
use Rattle.mlt_tree.specs.Edits.{Edited}
use Rattle.mlt_tree.specs.Props.{counted, timed, count, distance, choice, moment}
use Rattle.mlt_tree.specs.Refusing.{refuse, or_refuse, at_word, at_group, only_one}
use Rattle.mlt_tree.specs.Services.{raw_of}
use Rattle.mlt_tree.specs.Show.{Source, Pix, Rgb, Rgba}
use Rattle.mlt_tree.specs.Table.{of_kind}
use Rattle.mlt_tree.specs.Units.{Level, empty_level, with_entries, list_unit}

-- ---- the profile

abbrev pub default_profile : Measures
default_profile = row_measures DV_PAL

abbrev pub profile_read : Group → Result Measures Refusal
profile_read g = or_refuse g.place cause.BadValue (profile g.arg)

-- the profile that is named, if one is; a second `-profile` is refused
unfoldable pub profile_named : List Group → Result (Option Measures) Refusal
profile_named gs = only_one profile_read (of_kind kind.Profile gs)

-- ---- the state of a composition

-- the output, by the place of its group; the first and last position where they are given
pub record Consumer : Type 0 where
  pub place : ℕ
  pub video : List ℕ
  pub pix : Pix
  pub workers : ℕ
  pub buffer : ℕ
  pub slices : ℕ
  pub cache : ℕ
  pub first : Option ℕ
  pub last : Option ℕ

-- what the words of a file share with those around them: the units and the sources by their numbers, how many bytes
-- were loaded and how many words were read
pub record Made : Type 0 where
  pub units : List Node
  pub sources : List Source
  pub loaded : ℕ
  pub words : ℕ

-- a composition as far as its groups are read
pub record State : Type 0 where
  pub profile : Measures
  pub made : Made
  -- the tracks, and what is planted on them, with the places of the plants' groups
  pub level : Level
  pub plant_places : List ℕ
  -- the properties of the last `-group`, which those of later producers follow
  pub inherited : List Prop
  -- the unit of the last mix that was made on this track
  pub last_mix : Option ℕ
  pub consumer : Option Consumer

-- before the first of so many words
abbrev pub begun : Measures → ℕ → State
begun profile words = record {
  profile = profile;
  made = record { units = []; sources = []; loaded = 0; words = words };
  level = empty_level;
  plant_places = [];
  inherited = [];
  last_mix = None;
  consumer = None;
}

-- the properties of a group, the inherited ones first
abbrev pub props_of : State → Group → List Prop
props_of s g = s.inherited ++ g.props

-- the entries of the track
abbrev pub track : State → List Entry
track s = s.level.current.entries

abbrev pub with_track : State → List Entry → State
with_track s es = record s { level = with_entries s.level es }

-- an edit of the track, whose refusal is its group's
abbrev pub edited : {A : Type 0} → State → Group → Edited A → Result State Refusal
edited s g done = at_group g.place done >>= λ answer. Ok (with_track s answer.1)

-- ---- edits of the track

unfoldable pub blank : State → Group → Result State Refusal
blank s g = timed s.profile g.place g.arg >>= λ last. edited s g (edit.blank last (track s))

-- what is done with the last entry, by its index
abbrev pub on_last : State → Group → (ℕ → Result State Refusal) → Result State Refusal
on_last s g act = by (track s) where
  by : List Entry → Result State Refusal
  by [] = refuse g.place (cause.TooFew 1 0)
  by (e ∷ es) = act (length es)

abbrev pub remove : State → Group → Result State Refusal
remove s g = on_last s g (λ last. edited s g (edit.remove last (track s)))

unfoldable pub repeat : State → Group → Result State Refusal
repeat s g = counted 1 MOST_ENTRIES g.place g.arg >>= λ n. on_last s g (λ last. edited s g (edit.repeat_clip last n (track s)))

abbrev pub split_at_frame : State → Group → ℤ → Result State Refusal
split_at_frame s g k = on_last s g (λ last. edited s g (edit.split last k (track s)))

unfoldable pub split : State → Group → Result State Refusal
split s g = at_word g.place (whole g.arg) >>= split_at_frame s g

abbrev pub swap : State → Group → Result State Refusal
swap s g = edited s g (edit.swap_last (track s))

-- n entries from an index on become one clip of a new unit
abbrev pub joined_at : State → Group → (at n : ℕ) → Result State Refusal
joined_at s g at n = do
  done ← at_group g.place (edit.join at n (length s.made.units) (track s))
  Ok (record (with_track s done.1) { made = record s.made { units = s.made.units ++ list_unit done.0 ∷ [] } })

-- the last n entries are joined
unfoldable pub join : State → Group → Result State Refusal
join s g = counted 1 MOST_ENTRIES g.place g.arg >>= λ n. joined_at s g (length (track s) - n) n

-- ---- the consumer

abbrev pub pix_of : (rgba : Bool) → Pix
pix_of true = Rgba
pix_of false = Rgb

unfoldable pub raw_output : State → Group → List ℕ → Result State Refusal
raw_output s g video = do
  rgba ← choice row.PIX g.props
  workers ← distance row.REAL_TIME g.props
  buffer ← count row.BUFFER g.props
  slices ← count row.SLICES g.props
  cache ← count row.CACHE g.props
  first ← moment row.IN s.profile g.props
  last ← moment row.OUT s.profile g.props
  Ok (record s { consumer = Some (record { place = g.place; video = video; pix = pix_of rgba; workers = workers; buffer = buffer; slices = slices; cache = cache; first = first; last = last }) })

abbrev pub first_consumer : State → Group → Option Consumer → Result State Refusal
first_consumer s g None = or_refuse g.place cause.UnknownService (raw_of g.arg) >>= raw_output s g
first_consumer s g (Some consumer) = refuse g.place (cause.TooMany 1)

unfoldable pub consumer : State → Group → Result State Refusal
consumer s g = first_consumer s g s.consumer

-- ---- the properties that later producers inherit

unfoldable pub inherit : State → Group → Result State Refusal
inherit s g = Ok (record s { inherited = g.props })
