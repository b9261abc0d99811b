-- What a service that a word names means.
use Rattle.std.specs.Option.{option_copied}
use Rattle.mlt_tree.specs.Services as meaning
use Rattle.melt_build.specs.declared.service.IdAndValue.{IdAndValue}
use Rattle.melt_build.specs.declared.service.Named.{Named}

abbrev pub named_view : Named → meaning.Named
named_view named = record { producer = named.producer; arg = named.arg.now }

abbrev pub called_view : IdAndValue → meaning.Called
called_view word = record { id = word.id.now; value = option_copied word.value }
