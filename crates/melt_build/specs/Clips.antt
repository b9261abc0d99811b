-- What a producer's word asks for and makes, as the definitions see it.
use Rattle.mlt_tree.specs.Clips as meaning
use Rattle.melt_build.specs.declared.wanted.Origin.{Origin}
use Rattle.melt_build.specs.declared.wanted.Origin.TheVariants.{Colour, Picture, Words}
use Rattle.melt_build.specs.declared.wanted.Product.{Product}
use Rattle.melt_build.specs.declared.wanted.Wanted.{Wanted}
use Rattle.melt_build.specs.declared.state.Made.{Made}
use Rattle.mlt_image.specs.View.{pixel}
use Rattle.melt_build.specs.State.{made_view}

abbrev pub origin_view : Origin → meaning.Origin
origin_view (Colour colour) = meaning.OfColour (pixel colour)
origin_view (Picture name) = meaning.OfPicture name.now
origin_view (Words name) = meaning.OfWords name.now

abbrev pub wanted_view : Wanted → meaning.Wanted
wanted_view asked = record { first = asked.first; last = asked.last; length = asked.length }

-- a producer's value, and what its properties ask for
abbrev pub asked_view : Origin × Wanted → meaning.Origin × meaning.Wanted
asked_view asked = (origin_view asked.0, wanted_view asked.1)

-- among all that was made so far
abbrev pub product_view : Made → Product → meaning.Product
product_view made product = record { made = made_view made; unit = product.unit.0; frames = product.frames }
