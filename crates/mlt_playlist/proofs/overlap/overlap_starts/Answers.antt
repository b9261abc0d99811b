use Rattle.std.proofs.Common.{◌∙◌}
use Rattle.mlt_playlist.proofs.PartStarts.{mixed-are, mixed-given, on_ok}
use Rattle.mlt_playlist.proofs.overlap.overlap_starts.Goals as goal

pub replace-requires-clause-short : goal.replace-requires-clause-short
replace-requires-clause-short c =
    let a = c.index-entries-at in let b = c.index-entries-at-2 in
    let given = mixed-given c.args.entries.now c.args.at c.args.n 0 a.result b.result c.frames_of.result c.frames_of-2.result c.from.result c.from-2.result c.requires.there c.requires.some c.requires.first a.is b.is c.frames_of.ensures.value c.frames_of-2.ensures.value c.from.ensures c.from-2.ensures in
    (mixed-are c.args.entries.now c.args.starts.now _ c.args.at c.args.n 0 c.requires.indexed c.requires.there c.requires.some c.requires.first c.requires.second given).short

pub returns-clause-ok : goal.returns-clause-ok
returns-clause-ok c =
    let a = c.index-entries-at in let b = c.index-entries-at-2 in
    on_ok c.replace.result _ _ c.replace.ensures.list (λ same unit.
    let given = mixed-given c.args.entries.now c.args.at c.args.n unit a.result b.result c.frames_of.result c.frames_of-2.result c.from.result c.from-2.result c.requires.there c.requires.some c.requires.first a.is b.is c.frames_of.ensures.value c.frames_of-2.ensures.value c.from.ensures c.from-2.ensures in
    same ∙ (mixed-are c.args.entries.now c.args.starts.now _ c.args.at c.args.n unit c.requires.indexed c.requires.there c.requires.some c.requires.first c.requires.second given).are)
