use Rattle.std.proofs.Common.{◌+◌, ◌*◌, inl, inr, ◌∙◌, arith}
use Rattle.mlt_base.specs.Mixing.{laid_over}
use Rattle.mlt_kernel.proofs.Writes.{put_done, put_other}
use Rattle.mlt_kernel.proofs.Layers.{pixel_is}
use Rattle.mlt_kernel.proofs.over.over_opaque.Goals as goal

pub loop-p-preserved : goal.loop-p-preserved
loop-p-preserved c =
    let old = c.args.dst.now in let src = c.args.src.now in let so_far = c.loop-p.invariant in
    let at = c.loop-p.p * 4 in let laid = c.lay_opaque-laid.result in
    let low = c.pixel_at-low.ensures in let top = c.pixel_at-top.ensures in let is = c.lay_opaque-laid.ensures in
    let bytes = pixel_is c.args.opacity old src c.loop-p.p c.pixel_at-low.result c.pixel_at-top.result laid
    (low.r ∙ so_far.left at (omega arith)) (low.g ∙ so_far.left (at + 1) (omega arith)) (low.b ∙ so_far.left (at + 2) (omega arith)) (low.a ∙ so_far.left (at + 3) (omega arith))
    top.r top.g top.b top.a is.r is.g is.b is.a in
    record {
      done = λ k from lt. put_done (laid_over c.args.opacity old src) c.loop-p.dst _ (c.args.from * 4) at laid.r laid.g laid.b laid.a c.put_pixel.ensures (omega arith) so_far.done bytes.0 bytes.1 bytes.2 bytes.3 k from (omega arith);
      before = λ k lt. put_other c.loop-p.dst _ at laid.r laid.g laid.b laid.a k c.put_pixel.ensures (inl (omega arith)) ∙ so_far.before k lt;
      left = λ k le. put_other c.loop-p.dst _ at laid.r laid.g laid.b laid.a k c.put_pixel.ensures (inr (omega arith)) ∙ so_far.left k (omega arith);
    }
