-- The output buffer of a frame: its picture, and then its sound.
use Rattle.std.specs.Prelude.{ℕ, ◌+◌, ◌*◌}
use Rattle.mlt_base.specs.declared.profile.Profile.{Profile}
use Rattle.mlt_base.specs.Samples.{most_samples}
use Rattle.mlt_graph.specs.declared.show.Format.{Format}
use Rattle.mlt_graph.specs.declared.show.Format.TheVariants.{S16, S32}
use Rattle.mlt_graph.specs.declared.show.Output.{Output}
use Rattle.mlt_graph.specs.declared.show.Pix.{Pix}
use Rattle.mlt_graph.specs.declared.show.Pix.TheVariants.{Rgb, Rgba}

-- the bytes of a pixel
abbrev pub pixel_bytes : Pix → ℕ
pixel_bytes Rgb = 3
pixel_bytes Rgba = 4

-- the bytes of a sample
abbrev pub sample_bytes : Format → ℕ
sample_bytes S16 = 2
sample_bytes S32 = 4

-- the bytes of a frame: every pixel, and the most groups of samples that a frame has
abbrev pub piece_of : Output → Profile → ℕ
piece_of output profile =
    profile.width * profile.height * pixel_bytes output.pix + most_samples profile.rate.num profile.rate.den * output.channels * sample_bytes output.format
