use Rattle.std.proofs.Common.{sym, arith}
use Rattle.mlt_start.proofs.Plans.{highest-found}
use Rattle.mlt_start.proofs.plan.highest_row.Goals as goal

pub returns-then-has-row : goal.returns-then-has-row
returns-then-has-row c =
    highest-found c.args.has.now c.loop-row.row (omega arith) c.loop-row.invariant.within (sym c.if-has-row.true) c.loop-row.invariant.nothing
