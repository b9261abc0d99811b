use Rattle.mlt_playlist.proofs.Repeated.{repeated-tested}
use Rattle.mlt_playlist.proofs.joins.fits.Goals as goal

pub returns : goal.returns
returns c =
    let read = c.index-entries-at in
    record {
      tested = repeated-tested c.args.entries.now c.args.at c.args.n c.from-2.result c.from.result c.frames_of.result read.result c.sized.result (rw (← c.from.ensures) at c.requires.counted) c.requires.there read.is c.requires.some c.from-2.ensures c.frames_of.ensures.value c.sized.ensures;
    }
