use Rattle.mlt_playlist.proofs.Overlaps.{overlapped}
use Rattle.mlt_playlist.proofs.overlap.overlap.Goals as goal

pub returns-clause-list : goal.returns-clause-list
returns-clause-list c =
    overlapped c.args.entries.now.items c.take_first-b.new.entries.items c.take_last-a.new.entries.items c.insert_reserved.new.entries.items c.args.at c.args.n c.from-left.result c.index.result.now c.args.clip c.in_ok-last.last c.requires.there c.index.ensures c.in_ok-last.ensures (rw c.is_some-2.ensures at c.from-left.ensures) (rw c.in_ok-reserve.ensures.items at c.take_first-b.ensures.rest) c.take_last-a.ensures.rest c.insert_reserved.ensures.items
