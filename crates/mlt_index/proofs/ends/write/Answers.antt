use Rattle.std.proofs.Common.{ℕ, arith}
use Rattle.std.proofs.lemmas.List.{length-set}
use Rattle.std.proofs.lemmas.List.Sums.{sum_by_more}
use Rattle.mlt_index.proofs.EndsOf.{written-more}
use Rattle.mlt_index.proofs.ends.write.Goals as goal

pub loop-index-preserved : goal.loop-index-preserved
loop-index-preserved c =
    let i = c.loop-index.index in
    record {
      written = written-more c.args.start c.loop-index.last i c.loop-index.ends c.args.frames.now (omega arith) (omega arith) c.loop-index.invariant.written c.loop-index.invariant.last_is;
      last_is = omega (arith, sum_by_more (λ x. x) c.args.frames.now i 0 (omega arith));
      len = omega (arith, length-set {A = ℕ});
    }
