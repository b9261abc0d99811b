use Rattle.std.proofs.Common.{◌<◌, length, arith}
use Rattle.mlt_start.specs.Asked.{medium_of}
use Rattle.mlt_start.proofs.Plans.{planned-ends}
use Rattle.mlt_start.proofs.plan.plan_rows.Goals as goal

pub returns-clause-ends : goal.returns-clause-ends
returns-clause-ends c =
    λ row inside.
    let rows = c.number_rows.ensures in
    let there : row < length c.number_rows.new.ends = omega (arith, inside, rows.long, c.requires.long.1) in
    planned-ends (medium_of c.args.asked) c.args.at c.args.plants.now c.fill_has.new.has _ c.number_rows.new.ends c.follow_plants.new.ends row there c.follow_plants.ensures.ends (rows.each row there) c.fill_has.ensures
