-- What is played, and the bytes that it gives.
use Rattle.std.specs.Prelude.{ℕ, ◌+◌, ◌-◌, ◌*◌, zero, suc, List, [], ◌++◌, length, Option, None, Some, unwrap_or, slice_get, ◌≡◌, All}
use Rattle.std.specs.Option.{option_map}
use Rattle.mlt_base.specs.Colour.{Pixel}
use Rattle.mlt_base.specs.Fitting.{fitted}
use Rattle.mlt_base.specs.Mixing.{table}
use Rattle.mlt_base.specs.Profile.{Measures}
use Rattle.mlt_base.specs.Still.{Picture}
use Rattle.mlt_base.specs.declared.port.Port.{Port}
use Rattle.mlt_base.specs.declared.port.Port.TheVariants.{Video, Audio, Script, Text}
use Rattle.mlt_tree.specs.declared.tree.SourceKind.{SourceKind}
use Rattle.mlt_tree.specs.declared.tree.SourceKind.TheVariants.{Colour, Still}
use Rattle.mlt_tree.specs.declared.merge.MergeStep.{MergeStep}
use Rattle.mlt_tree.specs.Filters.{picture_filter}
use Rattle.mlt_tree.specs.Merges.{map_of, picture_merge}
use Rattle.mlt_tree.specs.Meaning.{Matter, mean}
use Rattle.mlt_tree.specs.Medium.{Pictures}
use Rattle.mlt_tree.specs.Needs.{needs}
use Rattle.mlt_base.specs.Picture.{plain, clear, over_black}
use Rattle.mlt_tree.specs.Tree.{Tree}

-- what a source holds
pub data Source : Type 0 where
  -- one colour
  Plain : Pixel → Source
  -- a picture, of any size
  Drawn : Picture → Source

-- the kind of a source
abbrev pub kind_of : Source → SourceKind
kind_of (Plain pixel) = Colour
kind_of (Drawn picture) = Still

-- how the pixels of a picture are written
pub data Pix : Type 0 where
  -- laid over black, three bytes a pixel
  Rgb : Pix
  -- as they are, four bytes a pixel
  Rgba : Pix

-- how a sample of sound is written
pub data Format : Type 0 where
  -- in two bytes
  S16 : Format
  -- in four bytes
  S32 : Format

-- where the frames go, which, and by how many hands
pub record Settings : Type 0 where
  -- the name of the pictures' output, and of the sound's, if it is written
  pub video : List ℕ
  pub audio : Option (List ℕ)
  pub pix : Pix
  pub first : ℕ
  pub last : ℕ
  -- hands that render besides the one that writes
  pub workers : ℕ
  -- frames that may be in work or waiting to be written
  pub buffer : ℕ
  -- bands that a frame is worked out in
  pub slices : ℕ
  -- fitted pictures that are kept
  pub cache : ℕ
  -- channels of the sound
  pub channels : ℕ
  pub format : Format

-- a composition with its profile, its sources and the output settings
pub record Show : Type 0 where
  pub profile : Measures
  pub sources : List Source
  pub tree : Tree
  pub output : Settings

-- how many pixels a frame has
abbrev pub pixels_of : Measures → ℕ
pixels_of profile = profile.width * profile.height

-- the picture of a source in a profile: one that was drawn is fitted into the frame
abbrev pub source_picture : Measures → Source → List ℕ
source_picture profile (Plain p) = plain (pixels_of profile) p
source_picture profile (Drawn picture) = table (pixels_of profile * 4) (fitted picture profile.width profile.height)

-- the picture of a source by its number, the same at every position; nothing is drawn for a missing one
abbrev pub picture_of : Measures → Option Source → List ℕ
picture_of profile None = clear (pixels_of profile)
picture_of profile (Some source) = source_picture profile source

-- the picture of a source of a table, fitted into the frame
abbrev pub fitted_picture : Measures → List Source → ℕ → Picture
fitted_picture profile table source = record { width = profile.width; height = profile.height; pixels = picture_of profile (slice_get table source) }

-- a source's number, and a picture
pub record Fit : Type 0 where
  pub source : ℕ
  pub picture : Picture

-- each picture is that of its source, fitted into the frame
abbrev pub AreFitted : Measures → List Source → List Fit → Type 0
AreFitted profile table fits = All (λ fit. fit.picture ≡ fitted_picture profile table fit.source) fits

-- the picture of the map of a merge, where it takes one
abbrev pub map_picture : Measures → List Source → MergeStep → Option (List ℕ)
map_picture profile sources step = option_map (λ no. picture_of profile (slice_get sources no.0)) (map_of step)

-- what pictures are made of, in a profile; under a picture that is merged, nothing counts as transparent black
abbrev pub pictures_of : Measures → List Source → Matter (List ℕ)
pictures_of profile sources = record {
  source = λ source n. picture_of profile (slice_get sources source);
  filter = λ step picture. picture_filter step profile.width picture;
  merge = λ step under picture. picture_merge step (map_picture profile sources step) profile.width (unwrap_or under (clear (pixels_of profile))) picture;
}

abbrev pub pictures : Show → Matter (List ℕ)
pictures show = pictures_of show.profile show.sources

-- the picture of a position, nothing counting as transparent black
abbrev pub picture_at : Show → ℕ → List ℕ
picture_at show n = unwrap_or (mean Pictures (pictures show) show.tree n) (clear (pixels_of show.profile))

-- a picture as it is written
abbrev pub packed : Pix → List ℕ → List ℕ
packed Rgb picture = over_black picture
packed Rgba picture = picture

-- the bytes of a position's picture
abbrev pub video_of : Show → ℕ → List ℕ
video_of show n = packed show.output.pix (picture_at show n)

-- ---- what is written, by port

-- the name of each output that a show writes
abbrev pub written_name : Show → Port → Option (List ℕ)
written_name show Video = Some show.output.video
written_name show Audio = show.output.audio
written_name show Script = None
written_name show Text = None

-- what a position gives to an output; sound comes later, and no show that is played has it yet
abbrev pub piece : Show → Port → ℕ → List ℕ
piece show Video n = video_of show n
piece show Audio n = []
piece show Script n = []
piece show Text n = []

-- how many positions are written
abbrev pub written_frames : Show → ℕ
written_frames show = show.output.last + 1 - show.output.first

-- ---- runs

-- a run: the name of each output that is written, what each position gives to it, counted from 0, how many positions
-- there are, how many sources each of them loads, and how many frames may be in work or waiting
pub record Run : Type 0 where
  pub name : Port → Option (List ℕ)
  pub gives : Port → ℕ → List ℕ
  pub frames : ℕ
  pub loads : ℕ → ℕ
  pub buffer : ℕ

-- a show that is played: its positions from the first to the last
abbrev pub played : Show → Run
played show = record {
  name = written_name show;
  gives = λ port n. piece show port (show.output.first + n);
  frames = written_frames show;
  loads = λ n. length (needs show.tree (show.output.first + n));
  buffer = show.output.buffer;
}

-- the bytes of the first so many positions of a run, one after another
abbrev pub bytes_to : Run → Port → ℕ → List ℕ
bytes_to run port zero = []
bytes_to run port (suc count) = bytes_to run port count ++ run.gives port count

-- how many sources the first so many positions of a run load, together
abbrev pub loads_to : Run → ℕ → ℕ
loads_to run zero = 0
loads_to run (suc count) = loads_to run count + run.loads count

-- the bytes of the first so many positions of a show, one after another
abbrev pub prefix : Show → Port → ℕ → List ℕ
prefix show port count = bytes_to (played show) port count
