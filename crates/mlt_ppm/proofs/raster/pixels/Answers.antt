use Rattle.std.proofs.Common.{◌≡◌, ◌*◌, length, take, arith}
use Rattle.std.proofs.lemmas.List.{length-take-le}
use Rattle.std.proofs.lemmas.List.FromFn.{fill_by_all}
use Rattle.mlt_base.specs.Ppm.{pixel_byte}
use Rattle.mlt_ppm.proofs.Pixels.{AreBytes, AreBytes-append}
use Rattle.mlt_ppm.proofs.raster.pixels.Goals as goal

pub loop-from-preserved : goal.loop-from-preserved
loop-from-preserved c =
    let F = pixel_byte c.args.scale.now.maxval c.args.raster.now in
    let from = c.loop-from.from in
    let some = c.min-some.result in
    let held : AreBytes F (from * 4) c.loop-from.pixels.items = record { long = c.loop-from.invariant.long; each = c.loop-from.invariant.done } in
    let part : length (take (some * 4) c.loop-from.block) ≡ some * 4 = length-take-le (some * 4) c.loop-from.block (omega arith) in
    let long : length c.put_pixels.new.block ≡ some * 4 = omega arith in
    let more = AreBytes-append F (from * 4) (some * 4) c.loop-from.pixels.items c.put_pixels.new.block c.extend_from_slice.new.self.items held c.in_ok-extend_from_slice.ensures.items long (λ j h. c.put_pixels.ensures j (omega arith)) in
    record {
      within = omega arith;
      long = omega (arith, more.long);
      done = λ k below. more.each k (omega arith);
    }

pub returns-clause-value : goal.returns-clause-value
returns-clause-value c = fill_by_all (pixel_byte c.args.scale.now.maxval c.args.raster.now) c.loop-from.pixels.items (c.args.count * 4) 0 (omega arith) (λ k h. c.loop-from.invariant.done k (omega arith))
