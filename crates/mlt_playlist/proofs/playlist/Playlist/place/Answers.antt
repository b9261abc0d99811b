use Rattle.std.proofs.Common.{length, ap, arith}
use Rattle.mlt_playlist.proofs.Place.{place_end, place_there}
use Rattle.mlt_playlist.proofs.playlist.Playlist.place.Goals as goal

pub returns-in-Some-clause-at : goal.returns-in-Some-clause-at
returns-in-Some-clause-at c =
    place_there c.args.self.now c.args.at c.in-Some.index c.in-Some.place.0 c.requires c.in-Some.ensures

pub returns-in-None-clause-at : goal.returns-in-None-clause-at
returns-in-None-clause-at c =
    place_end c.args.self.now c.args.at c.len.result c.requires (omega (arith, ap length c.self.view_is)) c.in-None.ensures
