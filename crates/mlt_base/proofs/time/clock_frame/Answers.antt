use Rattle.std.proofs.Common.{sym, arith}
use Rattle.mlt_base.specs.Time.{seconds_of, milliseconds_of}
use Rattle.mlt_base.proofs.Below.{below_err}
use Rattle.mlt_base.proofs.Times.{clock_ge}
use Rattle.mlt_base.proofs.time.clock_frame.Goals as goal

pub returns-then-seconds-clause-value : goal.returns-then-seconds-clause-value
returns-then-seconds-clause-value c =
    let more = clock_ge (seconds_of c.args.hours.now c.args.minutes.now c.args.seconds.now) (milliseconds_of c.args.fraction.now) c.args.rate.num c.args.rate.den (omega arith) (omega arith) in
    sym (below_err _ _ (omega (arith, more)))
