use Rattle.std.proofs.Common.{◌∙◌, ap, option_map}
use Rattle.mlt_props.specs.Contents.{content}
use Rattle.mlt_props.proofs.EntryLemmas.{value_of-entries_of}
use Rattle.mlt_props.proofs.held.value_of.Goals as goal

pub returns : goal.returns
returns g c = ap (option_map content) c.get.ensures.value ∙ value_of-entries_of c.args.entries.now.entries c.args.name.now
