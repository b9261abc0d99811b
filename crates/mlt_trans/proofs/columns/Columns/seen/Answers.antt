use Rattle.std.proofs.Common.{ap, ◌∙◌, take, drop, arith}
use Rattle.mlt_trans.proofs.Laid.{places_seen}
use Rattle.mlt_trans.proofs.columns.Columns.seen.Goals as goal

pub returns : goal.returns
returns c =
    let w = c.args.self.now in let skip = c.args.skip in let count = c.args.count in
    ap (λ n. take n (drop skip c.all.result.now)) (omega arith) ∙ places_seen w.pixels w.taken skip count c.all.result.now c.all.ensures.places (omega arith)
