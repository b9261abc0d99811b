use Rattle.std.proofs.Common.{sym, arith}
use Rattle.mlt_base.specs.Reading.{number}
use Rattle.mlt_base.proofs.Below.{below_held}
use Rattle.mlt_base.proofs.time.frame_of.Goals as goal

pub returns-in-Frames-clause-value : goal.returns-in-Frames-clause-value
returns-in-Frames-clause-value c =
    rw (c.in-Frames.is, sym (below_held 2147483648 c.number.result (number c.in-Frames.frames.now) (omega arith) (omega arith))) c.frame.ensures.value
