-- What is not built yet: each such word is refused at its place, before all else that is said of a composition.
use Rattle.std.specs.Prelude.{ℕ, ◌≡◌, ◌||◌, Bool, true, false, if◌then◌else◌, List, Option, None, Some, Result, Ok, find, codes}
use Rattle.std.specs.Str.{bytes_eq}
use Rattle.mlt_tree.specs.declared.group.Group.{Group}
use Rattle.mlt_tree.specs.declared.group.GroupKind.{GroupKind}
use Rattle.mlt_tree.specs.declared.group.GroupKind.TheVariants as kind
use Rattle.mlt_tree.specs.declared.group.Prop.{Prop}
use Rattle.mlt_tree.specs.declared.refusal.Cause.TheVariants as cause
use Rattle.mlt_tree.specs.declared.refusal.Refusal.{Refusal}
use Rattle.mlt_tree.specs.declared.services.FilterKind.{FilterKind}
use Rattle.mlt_tree.specs.declared.services.FilterKind.TheVariants as filter
use Rattle.mlt_tree.specs.declared.services.FilterRow.{FilterRow}
use Rattle.mlt_tree.specs.declared.services.MergeKind.{MergeKind}
use Rattle.mlt_tree.specs.declared.services.MergeKind.TheVariants as merge
use Rattle.mlt_tree.specs.declared.services.MergeRow.{MergeRow}
use Rattle.mlt_tree.specs.declared.services.Producer.{Producer}
use Rattle.mlt_tree.specs.declared.services.Producer.TheVariants.{Colour, Picture, Sound, Melt}
use Rattle.mlt_tree.specs.Refusing.{refuse}
use Rattle.mlt_tree.specs.Services.{Named, producer_of, raw_of, called, filter_named, merge_named}
use Rattle.mlt_tree.specs.Show.{Show}

-- whether this property of the consumer is not
abbrev pub is_later_prop : Prop → Bool
is_later_prop p = bytes_eq p.name (codes "audio") || bytes_eq p.name (codes "channels") || bytes_eq p.name (codes "format")

abbrev pub is_picture : Option Named → Bool
is_picture None = true
is_picture (Some named) = by named.producer where
  by : Producer → Bool
  by Colour = true
  by Picture = true
  by Sound = false
  by Melt = false

-- a producer of a picture; one of an unknown service is refused as that
abbrev pub producer_built : Group → Result (Unit {0}) Refusal
producer_built g = if is_picture (producer_of g.arg) then Ok tt else refuse g.place cause.Unsupported

abbrev pub is_picture_filter : FilterKind → Bool
is_picture_filter filter.Brightness = true
is_picture_filter filter.Greyscale = true
is_picture_filter filter.Invert = true
is_picture_filter filter.Mirror = true
is_picture_filter filter.Crop = true
is_picture_filter filter.Threshold = true
is_picture_filter filter.Sepia = true
is_picture_filter filter.Obscure = true
is_picture_filter filter.Opacity = true
is_picture_filter filter.SwapChannels = true
is_picture_filter filter.Volume = false
is_picture_filter filter.Mono = false
is_picture_filter filter.ChannelCopy = false
is_picture_filter filter.ChannelSwap = false
is_picture_filter filter.Silence = false

-- a filter of pictures; one of an unknown service is refused as that
abbrev pub filter_built : Group → Result (Unit {0}) Refusal
filter_built g = by (filter_named (called g.arg).id) where
  by : Option FilterRow → Result (Unit {0}) Refusal
  by None = Ok tt
  by (Some row) = if is_picture_filter row.kind then Ok tt else refuse g.place cause.Unsupported

abbrev pub is_picture_merge : MergeKind → Bool
is_picture_merge merge.Luma = true
is_picture_merge merge.Composite = true
is_picture_merge merge.Matte = true
is_picture_merge merge.Mix = false
is_picture_merge merge.Sum = false

-- a merge of pictures; one of an unknown service is refused as that
abbrev pub merge_built : Group → Result (Unit {0}) Refusal
merge_built g = by (merge_named (called g.arg).id) where
  by : Option MergeRow → Result (Unit {0}) Refusal
  by None = Ok tt
  by (Some row) = if is_picture_merge row.kind then Ok tt else refuse g.place cause.Unsupported

abbrev pub refuse_prop : Option Prop → Result (Unit {0}) Refusal
refuse_prop None = Ok tt
refuse_prop (Some p) = refuse p.place cause.Unsupported

abbrev pub props_built : Group → Option (List ℕ) → Result (Unit {0}) Refusal
props_built g None = Ok tt
props_built g (Some name) = refuse_prop (find is_later_prop g.props)

unfoldable pub built : Group → Result (Unit {0}) Refusal
built g = by g.kind where
  later : Result (Unit {0}) Refusal
  later = refuse g.place cause.Unsupported

  by : GroupKind → Result (Unit {0}) Refusal
  by kind.Producer = producer_built g
  by kind.Attach = filter_built g
  by kind.AttachCut = filter_built g
  by kind.AttachClip = filter_built g
  by kind.AttachTrack = filter_built g
  by kind.Filter = filter_built g
  by kind.Transition = merge_built g
  by kind.Blank = Ok tt
  by kind.Group = Ok tt
  by kind.Join = Ok tt
  by kind.Mix = Ok tt
  by kind.Mixer = merge_built g
  by kind.Remove = Ok tt
  by kind.Repeat = Ok tt
  by kind.Split = Ok tt
  by kind.Swap = Ok tt
  by kind.Track = Ok tt
  by kind.HideVideo = Ok tt
  by kind.AudioTrack = Ok tt
  by kind.HideAudio = Ok tt
  by kind.VideoTrack = Ok tt
  by kind.HideTrack = Ok tt
  by kind.NullTrack = Ok tt
  by kind.Profile = Ok tt
  by kind.Consumer = props_built g (raw_of g.arg)
  by kind.Serialise = later
  by kind.Query = Ok tt
  by kind.Version = Ok tt
  by kind.Generate = later
  by kind.Quiet = Ok tt
  by kind.Silent = Ok tt
  by kind.Progress = Ok tt
  by kind.Verbose = Ok tt
  by kind.Debug = Ok tt
  by kind.Getc = Ok tt
  by kind.Timings = Ok tt
  by kind.Abort = Ok tt

-- one group after another
abbrev pub built_step : Unit {0} → Group → Result (Unit {0}) Refusal
built_step done g = built g

-- ---- what no player plays yet

-- a show that can be played: one without sound
pub record IsPlayed (show : Show) : Type 0 where
  pub silent : show.output.audio ≡ None
