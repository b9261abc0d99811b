use Rattle.std.proofs.Common.{◌≡◌, ◌+◌, ◌%◌, length, ap, ◌∙◌, arith}
use Rattle.std.proofs.lemmas.List.FromFn.{fill_by_all}
use Rattle.mlt_vfilter.specs.Places.{runs}
use Rattle.mlt_vfilter.proofs.Squares.{runs_done, next_run}
use Rattle.mlt_vfilter.proofs.obscure.make_runs.Goals as goal

pub loop-from-preserved : goal.loop-from-preserved
loop-from-preserved c =
    let so_far = c.loop-from.invariant in let size = c.args.size in let from = c.loop-from.from in let more = c.min-more.result in
    let is = c.make_run.ensures in let whole = so_far.whole c.loop-from-test.true in
    record {
      within = omega arith;
      whole = λ lt. let all : more ≡ size = omega arith in ap (λ n. (from + n) % size) all ∙ next_run size from whole;
      done = runs_done size from more c.args.row.now c.loop-from.row c.make_run.new.row whole (omega arith) so_far.done so_far.left is.done is.before;
      left = λ k le. is.after k le ∙ so_far.left k (omega arith);
    }

pub returns : goal.returns
returns c =
    let old = c.args.row.now in
    fill_by_all (runs c.args.size old) c.loop-from.row (length old) 0 (omega arith) (λ k lt. c.loop-from.invariant.done k (omega arith))
