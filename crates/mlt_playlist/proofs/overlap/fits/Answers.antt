use Rattle.mlt_playlist.proofs.Mixes.{mixed-tested}
use Rattle.mlt_playlist.proofs.overlap.fits.Goals as goal

pub returns : goal.returns
returns c =
    let a = c.index-entries-at in
    let b = c.index-entries-at-2 in
    record {
      tested = mixed-tested c.args.entries.now c.args.at c.args.n c.args.total c.frames_of.result c.frames_of-2.result c.from.result c.from-2.result c.from-first.result c.from-second.result c.from-3.result a.result b.result c.sized.result c.requires.counted c.requires.there c.requires.some c.requires.first c.requires.second a.is b.is c.frames_of.ensures.value c.frames_of-2.ensures.value c.from.ensures c.from-2.ensures c.from-first.ensures c.from-second.ensures c.from-3.ensures c.sized.ensures;
    }
