-- Filters that words attach: to the last clip, to the unit that it is of, or to the track.
use Rattle.std.specs.Prelude.{ℕ, ◌+◌, ◌-◌, nat_le, if◌then◌else◌, List, [], ◌∷◌, ◌++◌, length, slice_get, Option, None, Some, Result, Ok}
use Rattle.mlt_base.specs.declared.name.Name.{Name}
use Rattle.mlt_base.specs.declared.value.UnitId.{UnitId}
use Rattle.mlt_base.specs.declared.value.Span.{Span}
use Rattle.mlt_base.specs.Name.{name_of}
use Rattle.mlt_base.specs.Span.{span}
use Rattle.mlt_base.specs.Steps.{◌>>=◌}
use Rattle.mlt_tree.specs.declared.entry.Entry.{Entry}
use Rattle.mlt_tree.specs.declared.entry.Entry.TheVariants.{Clip, Gap}
use Rattle.mlt_tree.specs.declared.filter.FilterSpec.{FilterSpec}
use Rattle.mlt_tree.specs.declared.filter.FilterSpec.TheVariants.{Brightness, Greyscale, Invert, Mirror, Crop, Threshold, Sepia, Obscure, Opacity, SwapChannels}
use Rattle.mlt_tree.specs.declared.group.Group.{Group}
use Rattle.mlt_tree.specs.declared.group.Prop.{Prop}
use Rattle.mlt_tree.specs.declared.refusal.Cause.TheVariants as cause
use Rattle.mlt_tree.specs.declared.refusal.Refusal.{Refusal}
use Rattle.mlt_tree.specs.declared.services.FilterKind.{FilterKind}
use Rattle.mlt_tree.specs.declared.services.FilterKind.TheVariants as filter
use Rattle.mlt_tree.specs.declared.services.FilterRow.{FilterRow}
use Rattle.mlt_tree.specs.declared.services.TheConstants as row
use Rattle.mlt_tree.specs.declared.tree.Attached.{Attached}
use Rattle.mlt_tree.specs.Composition.{State, props_of, track, edited}
use Rattle.mlt_tree.specs.Edits as edit
use Rattle.mlt_tree.specs.Props.{count, choice, animated, letters, moment, moment_or_first}
use Rattle.mlt_tree.specs.Refusing.{refuse, or_refuse}
use Rattle.mlt_tree.specs.Services.{called, filter_named}
use Rattle.mlt_tree.specs.Tree.{len}
use Rattle.mlt_tree.specs.Units.{tree_of, last_within, with_unit_filter, with_track_filter}

-- ---- what a filter's word asks for

unfoldable pub crop_of : List Prop → Result FilterSpec Refusal
crop_of props = do
  left ← count row.LEFT props
  right ← count row.RIGHT props
  top ← count row.TOP props
  bottom ← count row.BOTTOM props
  Ok (Crop left right top bottom)

-- the filter of a kind, with its properties; filters of sound are refused before
unfoldable pub spec_of : FilterKind → (place : ℕ) → List Prop → Result FilterSpec Refusal
spec_of filter.Brightness place props = animated row.LEVEL props >>= λ level. Ok (Brightness level)
spec_of filter.Greyscale place props = Ok Greyscale
spec_of filter.Invert place props = Ok Invert
spec_of filter.Mirror place props = choice row.MIRROR props >>= λ vertical. Ok (Mirror vertical)
spec_of filter.Crop place props = crop_of props
spec_of filter.Threshold place props = count row.MIDPOINT props >>= λ midpoint. Ok (Threshold midpoint)
spec_of filter.Sepia place props = Ok Sepia
spec_of filter.Obscure place props = count row.SIZE props >>= λ size. Ok (Obscure size)
spec_of filter.Opacity place props = animated row.LEVEL props >>= λ level. Ok (Opacity level)
spec_of filter.SwapChannels place props = letters row.ORDER props >>= λ order. Ok (SwapChannels order)
spec_of filter.Volume place props = refuse place cause.Unsupported
spec_of filter.Mono place props = refuse place cause.Unsupported
spec_of filter.ChannelCopy place props = refuse place cause.Unsupported
spec_of filter.ChannelSwap place props = refuse place cause.Unsupported
spec_of filter.Silence place props = refuse place cause.Unsupported

-- a filter, from its first position to its last where that is given
pub record Asked : Type 0 where
  pub spec : FilterSpec
  pub first : ℕ
  pub last : Option ℕ

-- a last position that is given is not before the first
abbrev pub ordered : (place first : ℕ) → Option ℕ → Result (Unit {0}) Refusal
ordered place first None = Ok tt
ordered place first (Some last) = if nat_le first last then Ok tt else refuse place (cause.BadRange first last 0)

-- the range, then the properties of the filter alone
unfoldable pub asked_by : State → Group → FilterKind → List Prop → Result Asked Refusal
asked_by s g kind props = do
  first ← moment_or_first row.IN s.profile props
  last ← moment row.OUT s.profile props
  spec ← spec_of kind g.place props
  range ← ordered g.place first last
  Ok (record { spec = spec; first = first; last = last })

-- what stands behind the `:` of a filter's word is a value of its first property, in the word's own place
abbrev pub valued : (place : ℕ) → Option Name → Option (List ℕ) → List Prop
valued place None value = []
valued place (Some name) None = []
valued place (Some name) (Some value) = record { place = place; name = name_of name; value = value } ∷ []

-- it comes before the inherited properties, and these before the group's own
abbrev pub filter_props : State → Group → FilterRow → List Prop
filter_props s g row = valued g.place row.first (called g.arg).value ++ props_of s g

abbrev pub filter_of : State → Group → FilterRow → Result Asked Refusal
filter_of s g row = asked_by s g row.kind (filter_props s g row)

-- the filter that a word asks for
unfoldable pub asked_filter : State → Group → Result Asked Refusal
asked_filter s g = or_refuse g.place cause.UnknownService (filter_named (called g.arg).id) >>= filter_of s g

-- ---- where it is attached

-- on so many frames from a start on, counted from there: to the last of them where no last is given, but not before
-- it begins
abbrev pub attached_from : (start frames : ℕ) → Asked → Attached
attached_from start frames asked =
    record { spec = asked.spec; span = span (start + asked.first) (start + last_within frames asked.first asked.last) }

-- what is done with the clip that stands last, by its unit and its frames
abbrev pub on_clip : State → Group → (UnitId → Span → Result State Refusal) → Result State Refusal
on_clip s g act = by (slice_get (track s) (length (track s) - 1)) where
  by : Option Entry → Result State Refusal
  by None = refuse g.place (cause.TooFew 1 0)
  by (Some (Gap frames)) = refuse g.place (cause.BadClip (length (track s) - 1) (length (track s)))
  by (Some (Clip unit span filters)) = act unit span

-- on the last clip, from its first frame on
abbrev pub attached_to_clip : State → Group → Asked → Result State Refusal
attached_to_clip s g asked =
    on_clip s g (λ unit span. edited s g (edit.attach (length (track s) - 1) (attached_from span.first.0 (span.last.0 + 1 - span.first.0) asked) (track s)))

unfoldable pub attach : State → Group → Result State Refusal
attach s g = asked_filter s g >>= attached_to_clip s g

-- with one filter more on a unit
abbrev pub with_unit_changed : State → ℕ → Attached → State
with_unit_changed s unit filter = record s { made = record s.made { units = with_unit_filter s.made.units unit filter } }

-- on the unit of the last clip, and so on each clip of it
abbrev pub attached_to_unit : State → Group → Asked → Result State Refusal
attached_to_unit s g asked =
    on_clip s g (λ unit span. Ok (with_unit_changed s unit.0 (attached_from 0 (len (tree_of s.made.units unit.0)) asked)))

unfoldable pub attach_clip : State → Group → Result State Refusal
attach_clip s g = asked_filter s g >>= attached_to_unit s g

-- on the track, whose end is known when all words are read
abbrev pub attached_to_track : State → Asked → State
attached_to_track s asked =
    record s { level = with_track_filter s.level (record { spec = asked.spec; first = asked.first; last = asked.last }) }

unfoldable pub attach_track : State → Group → Result State Refusal
attach_track s g = asked_filter s g >>= λ asked. Ok (attached_to_track s asked)
