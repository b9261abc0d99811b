use Rattle.std.proofs.Common.{get_or}
use Rattle.mlt_ppm.proofs.Pixels.{looked_up}
use Rattle.mlt_ppm.proofs.raster.Scale.narrow.Goals as goal

pub returns : goal.returns
returns c = looked_up c.args.self.now.maxval (get_or c.args.raster.now c.args.i 0) c.args.self.now.values c.args.self.now.made (c.type_inv.raster c.args.i).fits
