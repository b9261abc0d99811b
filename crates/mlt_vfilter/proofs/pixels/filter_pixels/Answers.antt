use Rattle.std.proofs.Common.{◌≡◌, ◌+◌, ◌*◌, length, inr, ◌∙◌, arith}
use Rattle.std.proofs.lemmas.List.FromFn.{fill_by_all}
use Rattle.mlt_kernel.proofs.Writes.{put_done, put_other}
use Rattle.mlt_vfilter.specs.Pixels.{pixel_of, pixelwise}
use Rattle.mlt_vfilter.proofs.EachPixel.{pixel_is, made_pixel}
use Rattle.mlt_vfilter.proofs.pixels.filter_pixels.Goals as goal

pub loop-p-preserved : goal.loop-p-preserved
loop-p-preserved g c =
    let f = g.F.PixelFilter.makes c.args.filter in
    let old = c.args.row.now in let row = c.loop-p.row in let p = c.loop-p.p in let at = p * 4 in
    let so_far = c.loop-p.invariant in let read = c.pixel_at-old.ensures in let new = c.filter-new.result in
    let same : c.pixel_at-old.result ≡ pixel_of old p =
    pixel_is c.pixel_at-old.result (pixel_of old p) (read.r ∙ so_far.left at (omega arith)) (read.g ∙ so_far.left (at + 1) (omega arith)) (read.b ∙ so_far.left (at + 2) (omega arith)) (read.a ∙ so_far.left (at + 3) (omega arith)) in
    let made = made_pixel f old p c.pixel_at-old.result new c.filter-new.ensures same in
    record {
      done = λ k from lt. put_done (pixelwise f old) row _ 0 at new.r new.g new.b new.a c.put_pixel.ensures (omega arith) so_far.done made.0 made.1 made.2 made.3 k from (omega arith);
      left = λ k le. put_other row _ at new.r new.g new.b new.a k c.put_pixel.ensures (inr (omega arith)) ∙ so_far.left k (omega arith);
    }

pub returns : goal.returns
returns g c =
    let old = c.args.row.now in
    fill_by_all (pixelwise (g.F.PixelFilter.makes c.args.filter) old) c.loop-p.row (length old) 0 (omega arith) (λ k lt. c.loop-p.invariant.done k (omega arith) (omega arith))
