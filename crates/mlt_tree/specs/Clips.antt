-- Producers: what a word has made, and the clip of it at the track's end.
use Rattle.std.specs.Prelude.{ℕ, ◌+◌, ◌-◌, ◌&&◌, nat_le, nat_lt, max, min, if◌then◌else◌, List, [], ◌∷◌, ◌++◌, length, Option, None, Some, unwrap_or, Result, Ok}
use Rattle.mlt_base.specs.Colour.{Pixel, colour_of}
use Rattle.mlt_base.specs.declared.limits.TheConstants as limit
use Rattle.mlt_base.specs.Profile.{Measures}
use Rattle.mlt_base.specs.Steps.{◌>>=◌}
use Rattle.mlt_tree.specs.declared.group.Group.{Group}
use Rattle.mlt_tree.specs.declared.refusal.Cause.TheVariants as cause
use Rattle.mlt_tree.specs.declared.refusal.Refusal.{Refusal}
use Rattle.mlt_tree.specs.declared.services.Producer.{Producer}
use Rattle.mlt_tree.specs.declared.services.Producer.TheVariants.{Colour, Picture, Sound, Melt}
use Rattle.mlt_tree.specs.declared.services.TheConstants as row
use Rattle.mlt_tree.specs.Composition.{Made, State, props_of, track, with_track}
use Rattle.mlt_tree.specs.Edits as edit
use Rattle.mlt_tree.specs.Edits.{clip}
use Rattle.mlt_tree.specs.Props.{number, moment, moment_or_first}
use Rattle.mlt_tree.specs.Refusing.{refuse, or_refuse, at_group}
use Rattle.mlt_tree.specs.Services.{producer_of, colour_name}
use Rattle.mlt_tree.specs.Show.{Source, Plain, Drawn, kind_of}
use Rattle.mlt_tree.specs.Units.{source_unit}

-- the first and last frame of a cut
pub record Cut : Type 0 where
  pub first : ℕ
  pub last : ℕ

-- from the first frame to the last, which is the source's where none is given
abbrev pub cut_of : ℕ → ℕ → ℕ → Option ℕ → Result Cut Refusal
cut_of place length first out =
    let last = unwrap_or out (length - 1) in
    if nat_le first last && nat_lt last length then Ok (record { first = first; last = last })
    else refuse place (cause.BadRange first last length)

-- ---- what a producer's word asks for

-- what its value names
pub data Origin : Type 0 where
  OfColour : Pixel → Origin
  -- the file of a picture
  OfPicture : (name : List ℕ) → Origin
  -- the file of words
  OfWords : (name : List ℕ) → Origin

-- the first frame and the last, and the length, where they are given
pub record Wanted : Type 0 where
  pub first : ℕ
  pub last : Option ℕ
  pub length : Option ℕ

-- the first frame and the last
unfoldable pub range_by : State → Group → Result Wanted Refusal
range_by s g = do
  first ← moment_or_first row.IN s.profile (props_of s g)
  last ← moment row.OUT s.profile (props_of s g)
  Ok (record { first = first; last = last; length = None })

-- and then the length
unfoldable pub wanted_by : State → Group → Result Wanted Refusal
wanted_by s g = do
  range ← range_by s g
  length ← number row.LENGTH (props_of s g)
  Ok (record range { length = length })

-- what a service takes: its value, then its properties in the order of their table
abbrev pub asked_of : State → Group → (value : List ℕ) → Producer → Result (Origin × Wanted) Refusal
asked_of s g value Colour = do
  pixel ← or_refuse g.place cause.BadValue (colour_of (colour_name value))
  asked ← wanted_by s g
  Ok (OfColour pixel, asked)
asked_of s g value Picture = wanted_by s g >>= λ asked. Ok (OfPicture value, asked)
asked_of s g value Sound = refuse g.place cause.Unsupported
asked_of s g value Melt = range_by s g >>= λ asked. Ok (OfWords value, asked)

-- the service that the word names, with what it takes
unfoldable pub asked_for : State → Group → Result (Origin × Wanted) Refusal
asked_for s g =
    or_refuse g.place cause.UnknownService (producer_of g.arg) >>= λ named. asked_of s g named.arg named.producer

-- ---- what it makes

-- the unit that is cut from, with how many frames it has, among all that was made so far
pub record Product : Type 0 where
  pub made : Made
  pub unit : ℕ
  pub frames : ℕ

-- the length of a source by itself
abbrev pub own_length : Measures → Source → ℕ
own_length profile (Plain pixel) = limit.OWN_LENGTH
own_length profile (Drawn picture) = limit.OWN_LENGTH

-- the length of a source: what is asked for, else its own, or as far as the clip goes where that is more
abbrev pub length_by : ℕ → Option ℕ → Option ℕ → ℕ
length_by own last (Some length) = length
length_by own None None = own
length_by own (Some last) None = min (max own (last + 1)) row.LENGTH.high

-- a source and its unit, which have the next numbers
abbrev pub with_source : Made → Source → ℕ → Made
with_source made source frames = record made {
  units = made.units ++ source_unit (record { 0 = length made.sources }) (kind_of source) frames ∷ [];
  sources = made.sources ++ source ∷ [];
}

abbrev pub source_made : Measures → Made → Source → Wanted → Product
source_made profile made source asked =
    let length_asked = length_by (own_length profile source) asked.last asked.length in
    record { made = with_source made source length_asked; unit = length made.units; frames = length_asked }

-- ---- the clip of it

-- at the track's end
unfoldable pub clip_added : State → Group → Product → Wanted → Result State Refusal
clip_added s g product asked = do
  cut ← cut_of g.place product.frames asked.first asked.last
  done ← at_group g.place (edit.append (clip product.unit cut.first cut.last []) (track s))
  Ok (record (with_track s done.1) { made = product.made })
