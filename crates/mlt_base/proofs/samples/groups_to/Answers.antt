use Rattle.std.proofs.Common.{arith, ◌*◌}
use Rattle.std.proofs.Math.Nat.{mul_assoc}
use Rattle.mlt_base.proofs.Groups.{quotient_first, samples_to-le}
use Rattle.mlt_base.proofs.samples.groups_to.Goals as goal

pub returns-clause-value : goal.returns-clause-value
returns-clause-value c = rw (c.from-n.ensures, c.from-groups.ensures, c.from-num.ensures) (rw mul_assoc (quotient_first c.args.n (48000 * c.args.rate.den) c.args.rate.num (omega arith)))

pub returns-clause-bound : goal.returns-clause-bound
returns-clause-bound c = rw (c.from-n.ensures, c.from-groups.ensures, c.from-num.ensures) (rw (quotient_first c.args.n (48000 * c.args.rate.den) c.args.rate.num (omega arith), ← mul_assoc) (samples_to-le c.args.rate.num c.args.rate.den c.args.n (omega arith)))
