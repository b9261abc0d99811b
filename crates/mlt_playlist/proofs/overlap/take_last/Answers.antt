use Rattle.std.proofs.Common.{sym, ◌∙◌}
use Rattle.mlt_playlist.proofs.Overlaps.{narrowed_last}
use Rattle.mlt_playlist.proofs.overlap.take_last.Goals as goal

pub returns-in-Some-clause-rest : goal.returns-in-Some-clause-rest
returns-in-Some-clause-rest c =
    narrowed_last c.args.entries.now.items c.args.at c.args.n c.frames_of-frames.result c.index_mut-entry.result.now c.narrow.new.entry c.in-Some.part c.requires.there c.index_mut-entry.ensures.value (sym c.in-Some.is ∙ c.requires.copy) c.frames_of-frames.ensures.value c.narrow.ensures
