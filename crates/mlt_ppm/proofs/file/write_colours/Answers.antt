use Rattle.std.proofs.Common.{arith}
use Rattle.mlt_ppm.proofs.Colours.{written_more}
use Rattle.mlt_ppm.proofs.file.write_colours.Goals as goal

pub loop-p-preserved : goal.loop-p-preserved
loop-p-preserved c = written_more c.args.pixels.now c.args.file.now.items c.loop-p.file.items c.extend_from_slice.new.self.items c.loop-p.p _ (omega arith) (omega arith) c.loop-p.invariant c.in_ok-extend_from_slice.ensures.items
