-- What a show means.
use Rattle.std.specs.Prelude.{List}
use Rattle.mlt_tree.specs.Show as meaning
use Rattle.mlt_base.specs.ProfileView.{measures_of}
use Rattle.mlt_graph.specs.declared.show.Format.{Format}
use Rattle.mlt_graph.specs.declared.show.Format.TheVariants.{S16, S32}
use Rattle.mlt_graph.specs.declared.show.Output.{Output}
use Rattle.mlt_graph.specs.declared.show.Pix.{Pix}
use Rattle.mlt_graph.specs.declared.show.Pix.TheVariants.{Rgb, Rgba}
use Rattle.mlt_graph.specs.declared.show.Show.{Show}
use Rattle.mlt_graph.specs.Sealed.{tree}

abbrev pub pix_of : Pix → meaning.Pix
pix_of Rgb = meaning.Rgb
pix_of Rgba = meaning.Rgba

abbrev pub format_of : Format → meaning.Format
format_of S16 = meaning.S16
format_of S32 = meaning.S32

abbrev pub output_view : Output → meaning.Settings
output_view output = record {
  video = output.video;
  audio = output.audio;
  pix = pix_of output.pix;
  first = output.first.0;
  last = output.last.0;
  workers = output.workers;
  buffer = output.buffer;
  slices = output.slices;
  cache = output.cache;
  channels = output.channels;
  format = format_of output.format;
}

-- a show with its sources
abbrev pub meant : Show → List meaning.Source → meaning.Show
meant show sources = record {
  profile = measures_of show.profile;
  sources = sources;
  tree = tree show.sealed;
  output = output_view show.output;
}
