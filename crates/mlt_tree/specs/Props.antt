-- The value of a property: of several with one name the last counts, and a fault is at its own word.
use Rattle.std.specs.Prelude.{ℕ, ◌+◌, ◌==◌, ◌&&◌, Bool, true, false, nat_le, if◌then◌else◌, ℤ, pos, negsuc, neg_ℤ, List, [], ◌∷◌, length, fold, Option, None, Some, Result, Ok}
use Rattle.std.specs.Option.{option_map}
use Rattle.std.specs.Str.{bytes_eq}
use Rattle.mlt_base.specs.Animation.{animation}
use Rattle.mlt_base.specs.declared.animation.Key.{Key}
use Rattle.mlt_base.specs.declared.name.Name.{Name}
use Rattle.mlt_base.specs.declared.geometry.Geometry.{Geometry}
use Rattle.mlt_base.specs.Decimal.{decimal}
use Rattle.mlt_base.specs.Geometry.{geometry}
use Rattle.mlt_base.specs.GeometryView.{geometry_of}
use Rattle.mlt_base.specs.Name.{name_of}
use Rattle.mlt_base.specs.Profile.{Measures}
use Rattle.mlt_base.specs.Time.{time}
use Rattle.mlt_base.specs.Whole.{whole}
use Rattle.mlt_tree.specs.declared.group.Prop.{Prop}
use Rattle.mlt_tree.specs.declared.refusal.Cause.TheVariants.{BadValue, OutOfRange}
use Rattle.mlt_tree.specs.declared.refusal.Refusal.{Refusal}
use Rattle.mlt_tree.specs.declared.row.Count.{Count}
use Rattle.mlt_tree.specs.declared.row.Number.{Number}
use Rattle.mlt_tree.specs.declared.row.Distance.{Distance}
use Rattle.mlt_tree.specs.declared.row.Choice.{Choice}
use Rattle.mlt_tree.specs.declared.row.Animated.{Animated}
use Rattle.mlt_tree.specs.declared.row.Letters.{Letters}
use Rattle.mlt_tree.specs.declared.row.Moment.{Moment}
use Rattle.mlt_tree.specs.declared.row.Share.{Share}
use Rattle.mlt_tree.specs.declared.row.FileName.{FileName}
use Rattle.mlt_tree.specs.declared.row.Area.{Area}
use Rattle.mlt_base.specs.Steps.{◌>>=◌}
use Rattle.mlt_tree.specs.Refusing.{refuse, or_refuse, at_word}

-- this property, where it has the name, else the one found before
abbrev pub later : List ℕ → Option Prop → Prop → Option Prop
later name found prop = if bytes_eq prop.name name then Some prop else found

-- the last property of the name
abbrev pub last_named : List ℕ → List Prop → Option Prop
last_named name props = fold (later name) None props

-- what a reader makes of the property, by its place and value, or the default where there is none
abbrev pub read_prop : {A : Type 0} → (ℕ → List ℕ → Result A Refusal) → A → Option Prop → Result A Refusal
read_prop read default None = Ok default
read_prop read default (Some prop) = read prop.place prop.value

-- the same, where a missing property stands for nothing
abbrev pub read_given : {A : Type 0} → (ℕ → List ℕ → Result A Refusal) → Option Prop → Result (Option A) Refusal
read_given read None = Ok None
read_given read (Some prop) = read prop.place prop.value >>= λ x. Ok (Some x)

-- the same, where a missing property has the default's text
abbrev pub prop_or : {A : Type 0} → (ℕ → List ℕ → Result A Refusal) → Name → Option Prop → Result A Refusal
prop_or read default None = read 0 (name_of default)
prop_or read default (Some prop) = read prop.place prop.value

-- a whole number from low to high, none of them below 0
abbrev pub in_range : ℕ → ℕ → ℕ → ℤ → Result ℕ Refusal
in_range low high place (pos n) =
    if nat_le low n && nat_le n high then Ok n else refuse place (OutOfRange (pos n) (pos low) (pos high))
in_range low high place (negsuc n) = refuse place (OutOfRange (negsuc n) (pos low) (pos high))

unfoldable pub counted : ℕ → ℕ → ℕ → List ℕ → Result ℕ Refusal
counted low high place text = at_word place (whole text) >>= in_range low high place

-- how far a whole number is from 0, at most high
abbrev pub distance_within : ℕ → ℕ → ℤ → Result ℕ Refusal
distance_within high place (pos n) =
    if nat_le n high then Ok n else refuse place (OutOfRange (pos n) (neg_ℤ (pos high)) (pos high))
distance_within high place (negsuc n) =
    if nat_le (n + 1) high then Ok (n + 1) else refuse place (OutOfRange (negsuc n) (neg_ℤ (pos high)) (pos high))

unfoldable pub distant : ℕ → ℕ → List ℕ → Result ℕ Refusal
distant high place text = at_word place (whole text) >>= distance_within high place

-- a number that may go from key to key
unfoldable pub keyed : ℕ → List ℕ → Result (List Key) Refusal
keyed place text = at_word place (animation text)

-- a channel by its letter: `r`, `g`, `b` or `a`
abbrev pub channel_of : ℕ → Option ℕ
channel_of letter =
    if letter == 114 then Some 0 else (if letter == 103 then Some 1 else (if letter == 98 then Some 2 else (if letter == 97 then Some 3 else None)))

abbrev pub channels_of : List ℕ → Option (List ℕ)
channels_of [] = Some []
channels_of (letter ∷ letters) = behind (channel_of letter) (channels_of letters) where
  behind : Option ℕ → Option (List ℕ) → Option (List ℕ)
  behind None channels = None
  behind (Some channel) None = None
  behind (Some channel) (Some channels) = Some (channel ∷ channels)

-- a letter for each of the four channels
unfoldable pub lettered : ℕ → List ℕ → Result (List ℕ) Refusal
lettered place text = if length text == 4 then or_refuse place BadValue (channels_of text) else refuse place BadValue

-- a number from 0 to 1, in 65536ths
abbrev pub at_most_one : (place q : ℕ) → Result ℕ Refusal
at_most_one place q = if nat_le q 65536 then Ok q else refuse place BadValue

unfoldable pub shared : ℕ → List ℕ → Result ℕ Refusal
shared place text = at_word place (decimal 0 text) >>= at_most_one place

-- a place and a size in a frame of this profile
unfoldable pub placed : Measures → ℕ → List ℕ → Result Geometry Refusal
placed profile place text =
    or_refuse place BadValue (option_map geometry_of (geometry profile.width profile.height text))

-- a position, in this profile
unfoldable pub timed : Measures → ℕ → List ℕ → Result ℕ Refusal
timed profile place text = at_word place (time profile.num profile.den text)

-- the first word of a row or the second: whether it is the second
abbrev pub chosen : Choice → ℕ → List ℕ → Result Bool Refusal
chosen row place text =
    if bytes_eq text (name_of row.first) then Ok false else (if bytes_eq text (name_of row.second) then Ok true else refuse place BadValue)

-- ---- properties by their rows

-- a whole number, or its default
abbrev pub count : Count → List Prop → Result ℕ Refusal
count row props = read_prop (counted row.low row.high) row.default (last_named (name_of row.name) props)

-- a whole number, where it is given
abbrev pub number : Number → List Prop → Result (Option ℕ) Refusal
number row props = read_given (counted row.low row.high) (last_named (name_of row.name) props)

-- a distance from 0, or 0
abbrev pub distance : Distance → List Prop → Result ℕ Refusal
distance row props = read_prop (distant row.high) 0 (last_named (name_of row.name) props)

-- whether it is the second of two words
abbrev pub choice : Choice → List Prop → Result Bool Refusal
choice row props = read_prop (chosen row) false (last_named (name_of row.name) props)

-- a number that may go from key to key, or its default
abbrev pub animated : Animated → List Prop → Result (List Key) Refusal
animated row props = prop_or keyed row.default (last_named (name_of row.name) props)

-- four channels, or their default
abbrev pub letters : Letters → List Prop → Result (List ℕ) Refusal
letters row props = prop_or lettered row.default (last_named (name_of row.name) props)

-- a position, where it is given
abbrev pub moment : Moment → Measures → List Prop → Result (Option ℕ) Refusal
moment row profile props = read_given (timed profile) (last_named (name_of row.name) props)

-- a position, or the first
abbrev pub moment_or_first : Moment → Measures → List Prop → Result ℕ Refusal
moment_or_first row profile props = read_prop (timed profile) 0 (last_named (name_of row.name) props)

-- a number from 0 to 1, or 0
abbrev pub share : Share → List Prop → Result ℕ Refusal
share row props = read_prop shared 0 (last_named (name_of row.name) props)

-- a place and a size in the frame, or the default
abbrev pub area : Area → Measures → List Prop → Result Geometry Refusal
area row profile props = prop_or (placed profile) row.default (last_named (name_of row.name) props)

-- the name of a file, where it is given
abbrev pub file_name : FileName → List Prop → Option (List ℕ)
file_name row props = option_map (λ (prop : Prop). prop.value) (last_named (name_of row.name) props)
