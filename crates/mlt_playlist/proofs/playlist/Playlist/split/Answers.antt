use Rattle.std.proofs.Common.{w64}
use Rattle.std.proofs.lemmas.Int.{to_z-of_z}
use Rattle.mlt_playlist.proofs.Splits.{split-does}
use Rattle.mlt_playlist.proofs.playlist.Playlist.split.Goals as goal

pub returns : goal.returns
returns c =
    split-does c.args.self.now c.divide.new.self c.args.at c.in-Some.frames c.in-Some-before_split.place c.args.k c.divide.result (c.in-Some.ensures) (rw (to_z-of_z w64 c.args.k c.ranges.k) at c.in-Some-before_split.ensures) c.divide.ensures
