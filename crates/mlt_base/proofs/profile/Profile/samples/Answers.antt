use Rattle.std.proofs.Common.{arith}
use Rattle.mlt_base.proofs.Groups.{samples_le, most_samples-le}
use Rattle.mlt_base.proofs.profile.Profile.samples.Goals as goal

pub overflow_cast-result : goal.overflow_cast-result
overflow_cast-result c =
    let rate = c.args.self.now.rate in
    let step = samples_le rate.num rate.den c.args.n (omega arith) in
    let most = most_samples-le rate.num rate.den (omega arith) (omega arith) in
    rw (c.groups_to.ensures.value, c.groups_to-2.ensures.value) (omega (arith, step, most))

pub returns-clause-most : goal.returns-clause-most
returns-clause-most c =
    let rate = c.args.self.now.rate in
    rw (c.groups_to.ensures.value, c.groups_to-2.ensures.value) (samples_le rate.num rate.den c.args.n (omega arith))
