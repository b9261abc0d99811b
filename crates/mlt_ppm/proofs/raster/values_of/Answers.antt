use Rattle.std.proofs.Common.{rules}
use Rattle.std.proofs.lemmas.List.FromFn.{fill_by_all}
use Rattle.mlt_base.specs.Ppm.{eight_bits}
use Rattle.mlt_ppm.proofs.raster.values_of.Goals as goal

pub returns : goal.returns
returns c = fill_by_all (eight_bits c.args.maxval) c.loop-v.values 256 0 c.loop-v.invariant.0 (search rules)
