use Rattle.std.proofs.Common.{refl, arith}
use Rattle.mlt_playlist.proofs.MergedStarts.{both_short, gap_first, gap_next, gap_numbers}
use Rattle.mlt_playlist.proofs.gaps.merge_start.Goals as goal

pub overflow_add-both : goal.overflow_add-both
overflow_add-both c =
    omega (arith, both_short c.args.entries.now c.args.at c.args.behind c.index-entries-at.result c.args.starts.now c.requires.there c.index-entries-at.is c.requires.list c.requires.merged c.in-Gap.frames c.in-Gap.is)

pub exchange_starts-requires-clause-short : goal.exchange_starts-requires-clause-short
exchange_starts-requires-clause-short c =
    (gap_numbers c.args.entries.now c.args.at c.args.behind c.index-entries-at.result c.args.starts.now c.requires.there c.index-entries-at.is c.requires.list c.requires.merged c.in-Gap.frames c.in-Gap.is _ c.if-behind-gt0.true refl).short

pub returns-then-behind-gt0 : goal.returns-then-behind-gt0
returns-then-behind-gt0 c =
    gap_next c.args.entries.now c.args.at c.args.behind c.index-entries-at.result c.args.starts.now c.requires.there c.index-entries-at.is c.requires.list c.requires.merged c.in-Gap.frames c.in-Gap.is _ c.exchange_starts.new.starts c.if-behind-gt0.true refl c.exchange_starts.ensures

pub returns-else-behind-gt0 : goal.returns-else-behind-gt0
returns-else-behind-gt0 c =
    gap_first c.args.entries.now c.args.at c.args.behind c.index-entries-at.result c.args.starts.now c.requires.there c.index-entries-at.is c.requires.list c.requires.merged c.in-Gap.frames c.in-Gap.is c.if-behind-gt0.false
