use Rattle.std.proofs.Common.{◌≡◌, ◌+◌, ◌*◌, ap, sym, ◌∙◌, arith}
use Rattle.std.proofs.lemmas.Simd.{length-put_chunk}
use Rattle.mlt_base.specs.Ppm.{eight_bits, sample, pixel_byte}
use Rattle.mlt_ppm.proofs.Pixels.{chunk_more, opaque_is, wide_is}
use Rattle.mlt_ppm.proofs.raster.put_wide.Goals as goal

pub loop-p-preserved : goal.loop-p-preserved
loop-p-preserved c =
    let m = c.args.scale.now.maxval in
    let xs = c.args.raster.now in
    let at = (c.args.from + c.loop-p.p) * 3 in
    let r : c.wide-r.result ≡ eight_bits m (sample m xs at) = c.wide-r.ensures ∙ ap (eight_bits m) (sym (wide_is m xs at c.requires.wide)) in
    let g : c.wide-g.result ≡ eight_bits m (sample m xs (at + 1)) = c.wide-g.ensures ∙ ap (eight_bits m) (sym (wide_is m xs (at + 1) c.requires.wide)) in
    let b : c.wide-b.result ≡ eight_bits m (sample m xs (at + 2)) = c.wide-b.ensures ∙ ap (eight_bits m) (sym (wide_is m xs (at + 2) c.requires.wide)) in
    let pixel = opaque_is m xs c.args.from c.loop-p.p c.wide-r.result c.wide-g.result c.wide-b.result r g b in
    record {
      long = rw c.put_opaque.ensures (length-put_chunk _ _ _ ∙ c.loop-p.invariant.long);
      done = λ k below. rw c.put_opaque.ensures (chunk_more (λ k. pixel_byte m xs (c.args.from * 4 + k)) c.loop-p.block _ 0 (c.loop-p.p * 4) (omega arith) (λ k above below. c.loop-p.invariant.done k below) pixel k (omega arith) (omega arith));
    }
