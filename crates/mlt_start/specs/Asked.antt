-- The media, as the code asks for them.
use Rattle.mlt_start.specs.declared.asked.Asked.{Asked}
use Rattle.mlt_start.specs.declared.asked.Asked.TheVariants as asked
use Rattle.mlt_tree.specs.Medium.{Medium, Pictures, Sounds}

abbrev pub medium_of : Asked → Medium
medium_of asked.Pictures = Pictures
medium_of asked.Sounds = Sounds
