use Rattle.std.proofs.Common.{◌∙◌, length, arith, ap}
use Rattle.mlt_start.specs.Asked.{medium_of}
use Rattle.mlt_start.proofs.Counted.{length-after}
use Rattle.mlt_start.proofs.Plans.{has-followed, ends-followed, all-followed}
use Rattle.mlt_start.proofs.plan.follow_plants.Goals as goal

pub loop-index-preserved : goal.loop-index-preserved
loop-index-preserved c =
    let v = medium_of c.args.asked in
    let n = c.args.at in
    let plants = c.args.plants.now in
    let i = c.loop-index.index in
    let plant = c.index-plants-index.result in
    let followed = c.follow_one.ensures in
    record {
      long = ap length followed.has ∙ length-after v n c.loop-index.has plant ∙ c.loop-index.invariant.long;
      has = has-followed v n plants i c.loop-index.has c.loop-index.ends plant (omega arith) c.index-plants-index.is _ c.follow_one.new.has c.loop-index.invariant.has followed.has;
      ends = ends-followed v n plants i c.loop-index.has c.loop-index.ends plant (omega arith) c.index-plants-index.is _ c.follow_one.new.ends c.follow_one.new.has c.loop-index.invariant.ends followed.has followed.ends;
    }

pub returns-clause-ends : goal.returns-clause-ends
returns-clause-ends c =
    all-followed (medium_of c.args.asked) c.args.at c.args.plants.now c.loop-index.index c.loop-index.has c.loop-index.ends _ (omega arith) c.loop-index.invariant.ends
