-- Filters that words attach, tried on a track of one clip: each line is checked by computing both of its sides.
use Rattle.std.specs.Prelude.{ℕ, ◌≡◌, pos, refl, true, false, List, [], ◌∷◌, None, Result, Ok, Err, map, codes}
use Rattle.mlt_base.specs.declared.fault.NumFault.TheVariants.{BadDigit}
use Rattle.mlt_base.specs.declared.table.TheConstants.{DV_PAL}
use Rattle.mlt_base.specs.Animation.{constant, animation}
use Rattle.mlt_base.specs.Decimal.{decimal, decimal_parts, fraction_at, point_at}
use Rattle.mlt_base.specs.Profile.{row_measures}
use Rattle.mlt_base.specs.Span.{span}
use Rattle.mlt_base.specs.Reading.{digits_at, end_at, below, held}
use Rattle.mlt_base.specs.SplitOnce.{split_once}
use Rattle.mlt_base.specs.Time.{time, form_of, behind_first}
use Rattle.mlt_base.specs.Whole.{whole, digits_to_end, positive}
use Rattle.mlt_tree.specs.declared.entry.Entry.{Entry}
use Rattle.mlt_tree.specs.declared.entry.Entry.TheVariants.{Gap}
use Rattle.mlt_tree.specs.declared.filter.FilterSpec.{FilterSpec}
use Rattle.mlt_tree.specs.declared.filter.FilterSpec.TheVariants.{Brightness, Greyscale, Invert, Mirror, Crop, Threshold, Sepia, Obscure, Opacity, SwapChannels}
use Rattle.mlt_tree.specs.declared.group.Group.{Group}
use Rattle.mlt_tree.specs.declared.group.GroupKind.TheVariants.{Attach}
use Rattle.mlt_tree.specs.declared.group.Prop.{Prop}
use Rattle.mlt_tree.specs.declared.refusal.Cause.TheVariants.{Unsupported, UnknownService, BadValue, BadNumber, OutOfRange, TooFew, BadClip, BadRange}
use Rattle.mlt_tree.specs.declared.refusal.Refusal.{Refusal}
use Rattle.mlt_tree.specs.declared.tree.Attached.{Attached}
use Rattle.mlt_tree.specs.declared.tree.SourceKind.TheVariants.{Colour}
use Rattle.mlt_tree.specs.Attaching.{Asked, crop_of, spec_of, asked_by, asked_filter, attach, attach_clip, attach_track, attached_to_track}
use Rattle.mlt_tree.specs.Composition.{State, begun, with_track, track}
use Rattle.mlt_tree.specs.Edits.{clip}
use Rattle.mlt_tree.specs.Props.{counted, timed, keyed, lettered}
use Rattle.mlt_tree.specs.Refusing.{refuse}
use Rattle.mlt_tree.specs.Units.{source_unit}
use Rattle.mlt_tree.specs.Unbuilt.{filter_built}

-- a track of these entries, where unit 0 is a colour
abbrev on : List Entry → State
on entries = with_track (record (begun (row_measures DV_PAL) 9) { made = record { units = source_unit (record { 0 = 0 }) Colour 15000 ∷ []; sources = []; loaded = 0; words = 9 } }) entries

-- the frames 2 to 6 of unit 0
abbrev one_clip : State
one_clip = on (clip 0 2 6 [] ∷ [])

-- the word of a filter at place 6, its properties from place 8 on
abbrev word : List ℕ → List Prop → Group
word arg props = record { place = 6; kind = Attach; arg = arg; props = props }

abbrev given : ℕ → List ℕ → List ℕ → Prop
given place name value = record { place = place; name = name; value = value }

-- what a word asks for
abbrev asks : List ℕ → List Prop → Result Asked Refusal → Type 0
asks arg props answer = asked_filter one_clip (word arg props) ≡ answer

abbrev whole_span : FilterSpec → Result Asked Refusal
whole_span spec = Ok (record { spec = spec; first = 0; last = None })

-- ---- each filter, with its defaults

brightness : asks (codes "brightness") [] (whole_span (Brightness (constant 65536 ∷ [])))
unfolding split_once asked_filter asked_by spec_of keyed animation decimal decimal_parts fraction_at point_at below held
brightness = refl

greyscale : asks (codes "greyscale") [] (whole_span Greyscale)
unfolding split_once asked_filter asked_by spec_of
greyscale = refl

invert : asks (codes "invert") [] (whole_span Invert)
unfolding split_once asked_filter asked_by spec_of
invert = refl

mirror : asks (codes "mirror") [] (whole_span (Mirror false))
unfolding split_once asked_filter asked_by spec_of
mirror = refl

crop : asks (codes "crop") [] (whole_span (Crop 0 0 0 0))
unfolding split_once asked_filter asked_by spec_of crop_of
crop = refl

threshold : asks (codes "threshold") [] (whole_span (Threshold 128))
unfolding split_once asked_filter asked_by spec_of
threshold = refl

sepia : asks (codes "sepia") [] (whole_span Sepia)
unfolding split_once asked_filter asked_by spec_of
sepia = refl

obscure : asks (codes "obscure") [] (whole_span (Obscure 8))
unfolding split_once asked_filter asked_by spec_of
obscure = refl

opacity : asks (codes "opacity") [] (whole_span (Opacity (constant 65536 ∷ [])))
unfolding split_once asked_filter asked_by spec_of keyed animation decimal decimal_parts fraction_at point_at below held
opacity = refl

swapchannels : asks (codes "swapchannels") [] (whole_span (SwapChannels (2 ∷ 1 ∷ 0 ∷ 3 ∷ [])))
unfolding split_once asked_filter asked_by spec_of lettered
swapchannels = refl

-- ---- a value behind the `:` is the first property's

half : asks (codes "brightness:0.5") [] (whole_span (Brightness (constant 32768 ∷ [])))
unfolding split_once asked_filter asked_by spec_of keyed animation decimal decimal_parts fraction_at point_at below held
half = refl

left : asks (codes "crop:3") [] (whole_span (Crop 3 0 0 0))
unfolding split_once asked_filter asked_by spec_of crop_of counted whole digits_to_end digits_at end_at positive below held
left = refl

-- a later value counts, and the first is not read then
later_value : asks (codes "brightness:x") (given 8 (codes "level") (codes "0") ∷ []) (whole_span (Brightness (constant 0 ∷ [])))
unfolding split_once asked_filter asked_by spec_of keyed animation decimal decimal_parts fraction_at point_at below held
later_value = refl

-- it has the place of the word
bad_value : asks (codes "brightness:x") [] (refuse 6 (BadNumber (BadDigit 0)))
unfolding split_once asked_filter asked_by spec_of keyed animation decimal decimal_parts fraction_at point_at below held
bad_value = refl

-- but the range is read before it
range_first : asks (codes "brightness:x") (given 8 (codes "in") (codes "y") ∷ []) (refuse 8 (BadNumber (BadDigit 0)))
unfolding split_once asked_filter asked_by spec_of keyed animation decimal decimal_parts fraction_at point_at below held timed time form_of behind_first digits_at end_at
range_first = refl

no_properties : asks (codes "sepia:5") [] (whole_span Sepia)
unfolding split_once asked_filter asked_by spec_of
no_properties = refl

-- ---- both ends of each range, and the first number outside

most_left : asks (codes "crop:4096") [] (whole_span (Crop 4096 0 0 0))
unfolding split_once asked_filter asked_by spec_of crop_of counted whole digits_to_end digits_at end_at positive below held
most_left = refl

most_of_all_sides : asks (codes "crop") (given 8 (codes "bottom") (codes "4096") ∷ given 9 (codes "top") (codes "4096") ∷ given 10 (codes "right") (codes "4096") ∷ []) (whole_span (Crop 0 4096 4096 4096))
unfolding split_once asked_filter asked_by spec_of crop_of counted whole digits_to_end digits_at end_at positive below held
most_of_all_sides = refl

past_left : asks (codes "crop:4097") [] (refuse 6 (OutOfRange (pos 4097) (pos 0) (pos 4096)))
unfolding split_once asked_filter asked_by spec_of crop_of counted whole digits_to_end digits_at end_at positive below held
past_left = refl

least_light : asks (codes "threshold:0") [] (whole_span (Threshold 0))
unfolding split_once asked_filter asked_by spec_of counted whole digits_to_end digits_at end_at positive below held
least_light = refl

most_light : asks (codes "threshold:255") [] (whole_span (Threshold 255))
unfolding split_once asked_filter asked_by spec_of counted whole digits_to_end digits_at end_at positive below held
most_light = refl

past_light : asks (codes "threshold:256") [] (refuse 6 (OutOfRange (pos 256) (pos 0) (pos 255)))
unfolding split_once asked_filter asked_by spec_of counted whole digits_to_end digits_at end_at positive below held
past_light = refl

no_square : asks (codes "obscure:0") [] (refuse 6 (OutOfRange (pos 0) (pos 1) (pos 4096)))
unfolding split_once asked_filter asked_by spec_of counted whole digits_to_end digits_at end_at positive below held
no_square = refl

narrowest_square : asks (codes "obscure:1") [] (whole_span (Obscure 1))
unfolding split_once asked_filter asked_by spec_of counted whole digits_to_end digits_at end_at positive below held
narrowest_square = refl

past_square : asks (codes "obscure:4097") [] (refuse 6 (OutOfRange (pos 4097) (pos 1) (pos 4096)))
unfolding split_once asked_filter asked_by spec_of counted whole digits_to_end digits_at end_at positive below held
past_square = refl

widest_square : asks (codes "obscure:4096") [] (whole_span (Obscure 4096))
unfolding split_once asked_filter asked_by spec_of counted whole digits_to_end digits_at end_at positive below held
widest_square = refl

-- ---- words and letters

upside_down : asks (codes "mirror:vertical") [] (whole_span (Mirror true))
unfolding split_once asked_filter asked_by spec_of
upside_down = refl

sideways : asks (codes "mirror:sideways") [] (refuse 6 BadValue)
unfolding split_once asked_filter asked_by spec_of
sideways = refl

-- a letter may stand twice
letters_twice : asks (codes "swapchannels:arrg") [] (whole_span (SwapChannels (3 ∷ 0 ∷ 0 ∷ 1 ∷ [])))
unfolding split_once asked_filter asked_by spec_of lettered
letters_twice = refl

three_letters : asks (codes "swapchannels:rgb") [] (refuse 6 BadValue)
unfolding split_once asked_filter asked_by spec_of lettered
three_letters = refl

no_letter : asks (codes "swapchannels:rgbx") [] (refuse 6 BadValue)
unfolding split_once asked_filter asked_by spec_of lettered
no_letter = refl

unknown : asks (codes "blur:3") [] (refuse 6 UnknownService)
unfolding split_once asked_filter
unknown = refl

-- a filter of sound is not built yet
later_filter : filter_built (word (codes "volume:0.5") []) ≡ refuse 6 Unsupported
unfolding split_once
later_filter = refl

-- ---- where it acts

-- the filters of the last clip, once a word is read
abbrev filters_of : Result State Refusal → Result (List Entry) Refusal
filters_of (Ok s) = Ok (track s)
filters_of (Err refusal) = Err refusal

abbrev attaches : List Prop → Result (List Entry) Refusal → Type 0
attaches props answer = filters_of (attach one_clip (word (codes "invert") props)) ≡ answer

abbrev inverted : (first last : ℕ) → Result (List Entry) Refusal
inverted first last = Ok (clip 0 2 6 (record { spec = Invert; span = span first last } ∷ []) ∷ [])

-- on all of the clip, counted from its first frame
all_of_it : attaches [] (inverted 2 6)
unfolding split_once attach asked_filter asked_by spec_of
all_of_it = refl

from_the_second : attaches (given 8 (codes "in") (codes "1") ∷ given 9 (codes "out") (codes "3") ∷ []) (inverted 3 5)
unfolding split_once attach asked_filter asked_by spec_of timed time form_of behind_first digits_at end_at below held
from_the_second = refl

-- one frame, behind the clip's end
behind_its_end : attaches (given 8 (codes "in") (codes "9") ∷ []) (inverted 11 11)
unfolding split_once attach asked_filter asked_by spec_of timed time form_of behind_first digits_at end_at below held
behind_its_end = refl

backwards : attaches (given 8 (codes "in") (codes "3") ∷ given 9 (codes "out") (codes "1") ∷ []) (refuse 6 (BadRange 3 1 0))
unfolding split_once attach asked_filter asked_by spec_of timed time form_of behind_first digits_at end_at below held
backwards = refl

at_a_gap : attach (on (clip 0 2 6 [] ∷ Gap 3 ∷ [])) (word (codes "invert") []) ≡ refuse 6 (BadClip 1 2)
unfolding split_once attach asked_filter asked_by spec_of
at_a_gap = refl

at_nothing : attach (on []) (word (codes "invert") []) ≡ refuse 6 (TooFew 1 0)
unfolding split_once attach asked_filter asked_by spec_of
at_nothing = refl

-- the filters of all units, once a word is read
abbrev unit_filters : Result State Refusal → List (List Attached)
unit_filters (Ok s) = map (λ node. node.filters) s.made.units
unit_filters (Err refusal) = []

-- on all frames of the clip's unit
on_the_unit : (unit_filters (attach_clip one_clip (word (codes "invert") []))) ≡ ((record { spec = Invert; span = span 0 14999 } ∷ []) ∷ [])
unfolding split_once attach_clip asked_filter asked_by spec_of
on_the_unit = refl

-- on the track, whose end isn't known yet
on_the_track : attach_track one_clip (word (codes "invert") []) ≡ Ok (attached_to_track one_clip (record { spec = Invert; first = 0; last = None }))
unfolding split_once attach_track asked_filter asked_by spec_of
on_the_track = refl
