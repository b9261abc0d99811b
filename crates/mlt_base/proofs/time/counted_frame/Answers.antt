use Rattle.std.proofs.Common.{◌≡◌, refl, sym, min, ◌+◌, ◌-◌, ◌*◌, ◌^◌, arith}
use Rattle.mlt_base.specs.Reading.{number}
use Rattle.mlt_base.specs.Time.{seconds_of, frames_a_second}
use Rattle.mlt_base.proofs.Below.{below_err, below_held}
use Rattle.mlt_base.proofs.Times.{counted_ge, held_sum}
use Rattle.mlt_base.proofs.time.counted_frame.Goals as goal

pub returns-then-seconds-clause-value : goal.returns-then-seconds-clause-value
returns-then-seconds-clause-value c =
    let more = counted_ge (seconds_of c.args.hours.now c.args.minutes.now c.args.seconds.now) (number c.args.frames.now) c.args.rate.num c.args.rate.den (omega arith) (omega arith) in
    sym (below_err _ _ (omega (arith, more)))

pub returns-clause-value : goal.returns-clause-value
returns-clause-value c =
    let exact = seconds_of c.args.hours.now c.args.minutes.now c.args.seconds.now in
    let a_second = frames_a_second c.args.rate.num c.args.rate.den in
    let held : c.saturating_add.result ≡ min (exact * a_second + number c.args.frames.now) (2 ^ 64 - 1) = held_sum c.seconds_of-seconds.result exact c.div_ceil-frames_a_second.result a_second c.number.result (number c.args.frames.now) c.saturating_add.result (2 ^ 64 - 1) c.seconds_of-seconds.ensures (omega arith) (rw (c.div_ceil-frames_a_second.ensures, c.from.ensures, c.from-2.ensures) refl) c.number.ensures c.saturating_add.ensures in
    rw (sym (below_held 2147483648 c.saturating_add.result (exact * a_second + number c.args.frames.now) (omega arith) held)) c.frame.ensures.value
