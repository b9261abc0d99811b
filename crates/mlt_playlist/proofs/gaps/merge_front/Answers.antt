use Rattle.std.proofs.Common.{◌∙◌, arith}
use Rattle.std.proofs.lemmas.Grind.{drop_more_same}
use Rattle.mlt_playlist.proofs.Merging.{front-more, front-short}
use Rattle.mlt_playlist.proofs.gaps.merge_front.Goals as goal

pub keep_one-kept-requires-clause-short : goal.keep_one-kept-requires-clause-short
keep_one-kept-requires-clause-short c =
    let l = c.loop-at in
    omega (arith, front-short c.args.entries.now l.entries l.kept l.at l.invariant.front l.invariant.rest)

pub loop-at-preserved : goal.loop-at-preserved
loop-at-preserved c =
    let l = c.loop-at in let step = c.keep_one-kept in
    record {
      front = front-more c.args.entries.now l.entries step.new.entries l.kept step.result l.at (omega arith) l.invariant.front l.invariant.rest step.ensures.kept;
      rest = step.ensures.rest ∙ drop_more_same l.entries c.args.entries.now l.at l.invariant.rest;
      count = step.ensures.count;
      len = step.ensures.len ∙ l.invariant.len;
    }
