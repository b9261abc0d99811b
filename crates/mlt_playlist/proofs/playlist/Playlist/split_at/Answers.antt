use Rattle.mlt_playlist.proofs.Splits.{split_at-start}
use Rattle.mlt_playlist.proofs.playlist.Playlist.split_at.Goals as goal

pub returns-then-place-eq0 : goal.returns-then-place-eq0
returns-then-place-eq0 c =
    split_at-start c.args.self.now c.length-length.result c.args.at c.place-index.result.0 c.place-index.result.1 c.place-index.ensures.list c.length-length.ensures c.if-at-length.false c.place-index.ensures.at c.if-place-eq0.true
