use Rattle.std.proofs.Common.{◌+◌, ◌*◌, ◌%◌, ℕ, get_or, inl, inr, ap, ◌∙◌, arith}
use Rattle.mlt_kernel.proofs.Writes.{put_done, put_other}
use Rattle.mlt_vfilter.proofs.obscure.make_run.Goals as goal

pub loop-p-preserved : goal.loop-p-preserved
loop-p-preserved c =
    let old = c.args.row.now in let row = c.loop-p.row in let from = c.args.from in let at = c.loop-p.p * 4 in
    let so_far = c.loop-p.invariant in let colour = c.pixel_at-colour.result in let read = c.pixel_at-colour.ensures in
    let value = λ (k : ℕ). get_or old (from * 4 + k % 4) 0 in
    record {
      done = λ k le lt. put_done value row _ (from * 4) at colour.r colour.g colour.b colour.a c.put_pixel.ensures (omega arith) so_far.done
          (read.r ∙ ap (λ j. get_or old j 0) (omega arith)) (read.g ∙ ap (λ j. get_or old j 0) (omega arith))
          (read.b ∙ ap (λ j. get_or old j 0) (omega arith)) (read.a ∙ ap (λ j. get_or old j 0) (omega arith)) k le (omega arith);
      before = λ k lt. put_other row _ at colour.r colour.g colour.b colour.a k c.put_pixel.ensures (inl (omega arith)) ∙ so_far.before k lt;
      left = λ k le. put_other row _ at colour.r colour.g colour.b colour.a k c.put_pixel.ensures (inr (omega arith)) ∙ so_far.left k (omega arith);
    }
