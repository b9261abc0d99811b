use Rattle.std.proofs.Common.{option_to_list, rules}
use Rattle.mlt_playlist.proofs.Sizes.{divided-tested}
use Rattle.mlt_playlist.proofs.divide.fits.Goals as goal

pub returns : goal.returns
returns c =
    let es = c.args.entries.now in
    let size = c.size_of_some-count in
    record {
      tested = divided-tested es c.args.at c.args.place c.args.from (option_to_list c.args.between.now) size.result.0 c.from.result size.result.1 c.from-2.result c.sized.result c.requires.counted.list.entries c.requires.there c.requires.places c.requires.between size.ensures.count (search rules) size.ensures.frames c.from-2.ensures c.sized.ensures;
    }
