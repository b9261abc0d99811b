-- How far words are read, as the definition sees it.
use Rattle.mlt_tree.specs.Words.{WordsRead, Last, Nothing, Waiting, Open}
use Rattle.melt_words.specs.declared.reading.Reading.{Reading}
use Rattle.melt_words.specs.declared.reading.Last as code
use Rattle.melt_words.specs.declared.reading.Last.TheVariants as last

abbrev pub last_of : code.Last → Last
last_of last.Nothing = Nothing
last_of (last.Waiting place kind properties) = Waiting place kind properties
last_of (last.Open group properties) = Open group properties

abbrev pub state_of : Reading → WordsRead
state_of reading = record { done = reading.done; last = last_of reading.last }
