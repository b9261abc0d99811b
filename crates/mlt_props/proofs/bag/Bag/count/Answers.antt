use Rattle.std.proofs.Common.{subst}
use Rattle.mlt_props.specs.Entries.{HasDistinctNames}
use Rattle.mlt_props.proofs.EntryLemmas.{distinct_names}
use Rattle.mlt_props.proofs.bag.Bag.count.Goals as goal

pub returns-clause-distinct : goal.returns-clause-distinct
returns-clause-distinct g c = subst HasDistinctNames c.self.view_is (distinct_names c.self.inside.entries.entries c.len.ensures.unique)
