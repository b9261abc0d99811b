use Rattle.std.proofs.Common.{ℕ, ◌+◌, ◌-◌, ◌*◌, ◌/◌, get_or, inl, inr, ◌∙◌, arith}
use Rattle.mlt_base.specs.Mixing.{blended}
use Rattle.mlt_kernel.proofs.Writes.{put_done, put_other}
use Rattle.mlt_trans.proofs.Wiped.{turned_byte}
use Rattle.mlt_trans.proofs.wipe.turn_each.Goals as goal

pub loop-j-preserved : goal.loop-j-preserved
loop-j-preserved c =
    let found = c.args.found.now in let row = c.args.row.now in let other = c.args.other.now in let from = c.args.from in
    let so_far = c.loop-j.invariant in let j = c.loop-j.j in let at : ℕ = (from + j) * 4 in
    let r = c.blended-red.result in let g = c.blended-green.result in let b = c.blended-blue.result in let a = c.blended-alpha.result in
    let old = c.pixel_at-old.ensures in let new = c.pixel_at-new.ensures in
    let value = λ (k : ℕ). blended (get_or found (k / 4 - from) 0) (get_or row k 0) (get_or other k 0) in
    record {
      done = λ k le lt. put_done value c.loop-j.row _ (from * 4) at r g b a c.put_pixel.ensures (omega arith) so_far.done
          (turned_byte found row other from j 0 at _ _ r (omega arith) (omega arith) (old.r ∙ so_far.left at (omega arith)) new.r c.blended-red.ensures)
          (turned_byte found row other from j 1 (at + 1) _ _ g (omega arith) (omega arith) (old.g ∙ so_far.left (at + 1) (omega arith)) new.g c.blended-green.ensures)
          (turned_byte found row other from j 2 (at + 2) _ _ b (omega arith) (omega arith) (old.b ∙ so_far.left (at + 2) (omega arith)) new.b c.blended-blue.ensures)
          (turned_byte found row other from j 3 (at + 3) _ _ a (omega arith) (omega arith) (old.a ∙ so_far.left (at + 3) (omega arith)) new.a c.blended-alpha.ensures)
          k le (omega arith);
      before = λ k lt. put_other c.loop-j.row _ at r g b a k c.put_pixel.ensures (inl (omega arith)) ∙ so_far.before k lt;
      left = λ k le. put_other c.loop-j.row _ at r g b a k c.put_pixel.ensures (inr (omega arith)) ∙ so_far.left k (omega arith);
    }
