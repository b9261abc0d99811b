use Rattle.std.proofs.Common.{ℕ, ◌+◌, ◌-◌, ◌*◌, ◌/◌, length, inl, inr, ◌∙◌, arith}
use Rattle.mlt_kernel.proofs.Writes.{put_done, put_other}
use Rattle.mlt_vfilter.specs.Places.{turned}
use Rattle.mlt_vfilter.proofs.Turned.{turned_pixel, put_back}
use Rattle.mlt_vfilter.proofs.mirror.exchange_turned.Goals as goal

pub loop-p-preserved : goal.loop-p-preserved
loop-p-preserved c =
    let pixels : ℕ = length c.args.front.now / 4 in let p = c.loop-p.p in let at : ℕ = p * 4 in let other : ℕ = (pixels - 1 - p) * 4 in
    let front = c.args.front.now in let back = c.args.back.now in let so_far = c.loop-p.invariant in
    let low = c.pixel_at-low.result in let high = c.pixel_at-high.result in let low_is = c.pixel_at-low.ensures in let high_is = c.pixel_at-high.ensures in
    let to_front = turned_pixel pixels back p other (omega arith) in
    let to_back = turned_pixel pixels front (pixels - 1 - p) at (omega arith) in
    record {
      front = λ k from lt. put_done (turned pixels back) c.loop-p.front c.put_pixel.new.xs 0 at high.r high.g high.b high.a c.put_pixel.ensures (omega arith) so_far.front
          (high_is.r ∙ so_far.back_left other (omega arith) ∙ to_front.0) (high_is.g ∙ so_far.back_left (other + 1) (omega arith) ∙ to_front.1)
          (high_is.b ∙ so_far.back_left (other + 2) (omega arith) ∙ to_front.2) (high_is.a ∙ so_far.back_left (other + 3) (omega arith) ∙ to_front.3) k from (omega arith);
      front_left = λ k le. put_other c.loop-p.front c.put_pixel.new.xs at high.r high.g high.b high.a k c.put_pixel.ensures (inr (omega arith)) ∙ so_far.front_left k (omega arith);
      back = λ k from lt. put_back (turned pixels front) c.loop-p.back c.put_pixel-in-loop-p.new.xs (pixels * 4) other low.r low.g low.b low.a c.put_pixel-in-loop-p.ensures (omega arith) (λ j le below. so_far.back j (omega arith) below)
          (low_is.r ∙ so_far.front_left at (omega arith) ∙ to_back.0) (low_is.g ∙ so_far.front_left (at + 1) (omega arith) ∙ to_back.1)
          (low_is.b ∙ so_far.front_left (at + 2) (omega arith) ∙ to_back.2) (low_is.a ∙ so_far.front_left (at + 3) (omega arith) ∙ to_back.3) k (omega arith) lt;
      back_left = λ k lt. put_other c.loop-p.back c.put_pixel-in-loop-p.new.xs other low.r low.g low.b low.a k c.put_pixel-in-loop-p.ensures (inl (omega arith)) ∙ so_far.back_left k (omega arith);
    }

pub returns-clause-front : goal.returns-clause-front
returns-clause-front c = λ k lt. c.loop-p.invariant.front k (omega arith) (omega arith)

pub returns-clause-back : goal.returns-clause-back
returns-clause-back c = λ k lt. c.loop-p.invariant.back k (omega arith) (omega arith)
