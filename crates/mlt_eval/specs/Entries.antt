-- What an entry of the code means.
use Rattle.std.specs.Arc.{arc_value}
use Rattle.mlt_eval.specs.declared.fitted.Entry.{Entry}
use Rattle.mlt_tree.specs.Show.{Fit}

abbrev pub fit_of : Entry → Fit
fit_of entry = record { source = entry.source.0; picture = arc_value entry.picture }
