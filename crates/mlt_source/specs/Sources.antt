-- What a source of the code means.
use Rattle.mlt_image.specs.View.{pixel}
use Rattle.mlt_source.specs.declared.source.Source.{Source}
use Rattle.mlt_source.specs.declared.source.Source.TheVariants.{Colour, Still}
use Rattle.mlt_tree.specs.Show as meaning

abbrev pub source_of : Source → meaning.Source
source_of (Colour c) = meaning.Plain (pixel c)
source_of (Still picture) = meaning.Drawn picture
