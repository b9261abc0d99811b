use Rattle.std.proofs.Common.{length, ap, arith}
use Rattle.mlt_index.proofs.EndsOf.{length-numbers}
use Rattle.mlt_index.proofs.starts.Starts.count.Goals as goal

pub returns : goal.returns
returns c =
    omega (arith, length-numbers 0 c.self.inside.ends.items, ap length c.self.view_is)
