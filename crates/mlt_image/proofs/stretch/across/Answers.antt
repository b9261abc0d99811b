use Rattle.std.proofs.Common.{◌+◌, ◌*◌, length, get_or, refl, ap, arith}
use Rattle.std.proofs.lemmas.List.FromFn.{fill_by_all}
use Rattle.mlt_kernel.proofs.Writes.{put_done}
use Rattle.mlt_image.specs.Kept.{across_at}
use Rattle.mlt_image.proofs.Across.{across_is}
use Rattle.mlt_image.proofs.stretch.across.Goals as goal

pub loop-u-preserved : goal.loop-u-preserved
loop-u-preserved c =
    let pixels = c.args.pixels.now in let width = c.args.width in let places = c.args.places.now in let y = c.args.y in
    let u = c.loop-u.u in let mixed = c.across_one.result in
    λ k lt.
    put_done (across_at pixels width places y) c.loop-u.out _ 0 (u * 4) (get_or mixed 0 0) (get_or mixed 1 0) (get_or mixed 2 0) (get_or mixed 3 0) refl (omega arith)
    (λ j from below. c.loop-u.invariant j below)
    (across_is pixels width places y u 0 (u * 4) _ (omega arith) (omega arith) (ap (λ l. get_or l 0 0) c.across_one.ensures.value))
    (across_is pixels width places y u 1 (u * 4 + 1) _ (omega arith) refl (ap (λ l. get_or l 1 0) c.across_one.ensures.value))
    (across_is pixels width places y u 2 (u * 4 + 2) _ (omega arith) refl (ap (λ l. get_or l 2 0) c.across_one.ensures.value))
    (across_is pixels width places y u 3 (u * 4 + 3) _ (omega arith) refl (ap (λ l. get_or l 3 0) c.across_one.ensures.value))
    k (omega arith) (omega arith)

pub returns : goal.returns
returns c =
    fill_by_all (across_at c.args.pixels.now c.args.width c.args.places.now c.args.y) c.loop-u.out (length c.args.out.now) 0 (omega arith) (λ k lt. c.loop-u.invariant k (omega arith))
