use Rattle.std.proofs.Common.{◌∙◌, ap, option_map}
use Rattle.mlt_props.specs.Contents.{content, entries_of}
use Rattle.mlt_props.proofs.EntryLemmas.{value_of-entries_of, entries_of-remove}
use Rattle.mlt_props.proofs.held.remove.Goals as goal

pub returns-clause-value : goal.returns-clause-value
returns-clause-value g c =
    ap (option_map content) c.shift_remove.ensures.value ∙ value_of-entries_of c.args.entries.now.entries c.args.name.now

pub returns-clause-rest : goal.returns-clause-rest
returns-clause-rest g c =
    ap entries_of c.shift_remove.ensures.entries ∙ entries_of-remove c.args.entries.now.entries c.args.name.now
