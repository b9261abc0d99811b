use Rattle.std.proofs.Common.{◌∙◌, ap, sym, option_map, string_bytes, Some}
use Rattle.indexmap.specs.IndexMap.{set_value_at}
use Rattle.mlt_props.specs.Entries.{set_at, value_of}
use Rattle.mlt_props.specs.Contents.{content, entries_of}
use Rattle.mlt_props.proofs.EntryLemmas.{value_of-entries_of, entries_of-insert, entries_of-set_value_at}
use Rattle.mlt_props.proofs.held.replace.Goals as goal

pub returns-in-Some-clause-before : goal.returns-in-Some-clause-before
returns-in-Some-clause-before g c =
    ap (λ h. Some (content h)) c.replace-before.ensures.value
    ∙ ap (option_map content) (sym c.index_mut.ensures.value ∙ c.in-Some.ensures.value)
    ∙ value_of-entries_of c.args.entries.now.entries c.args.name.now

pub returns-in-Some-clause-set : goal.returns-in-Some-clause-set
returns-in-Some-clause-set g c =
    ap (λ h. entries_of (set_value_at c.args.entries.now.entries c.in-Some.index h)) c.replace-before.ensures.after
    ∙ entries_of-set_value_at c.args.entries.now.entries c.in-Some.index c.args.name.now c.args.held (sym c.in-Some.ensures.index)

pub returns-in-Ok-insert-clause-before : goal.returns-in-Ok-insert-clause-before
returns-in-Ok-insert-clause-before g c =
    ap (option_map content) c.in-Ok-insert.ensures.old
    ∙ value_of-entries_of c.args.entries.now.entries (string_bytes c.in-Ok.name)
    ∙ ap (value_of (entries_of c.args.entries.now.entries)) c.in-Ok.ensures.ok

pub returns-in-Ok-insert-clause-set : goal.returns-in-Ok-insert-clause-set
returns-in-Ok-insert-clause-set g c =
    ap entries_of c.in-Ok-insert.ensures.entries ∙ entries_of-insert c.args.entries.now.entries c.in-Ok.name c.args.held
    ∙ ap (λ name. set_at (entries_of c.args.entries.now.entries) name (content c.args.held)) c.in-Ok.ensures.ok
