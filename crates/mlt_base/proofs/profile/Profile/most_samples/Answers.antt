use Rattle.std.proofs.Common.{arith}
use Rattle.mlt_base.proofs.Groups.{samples_le}
use Rattle.mlt_base.proofs.profile.Profile.most_samples.Goals as goal

pub returns-clause-most : goal.returns-clause-most
returns-clause-most c n =
    let rate = c.args.self.now.rate in
    rw c.most_groups.ensures.value (samples_le rate.num rate.den n (omega arith))
