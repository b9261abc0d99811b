use Rattle.std.proofs.Common.{◌≡◌, ◌+◌, ◌*◌, ap, sym, ◌∙◌, arith}
use Rattle.std.proofs.lemmas.Simd.{length-put_chunk}
use Rattle.mlt_base.specs.Ppm.{eight_bits, sample, pixel_byte}
use Rattle.mlt_ppm.proofs.Pixels.{chunk_more, chunk_before, opaque_is, narrow_is}
use Rattle.mlt_ppm.proofs.raster.put_narrow.Goals as goal

pub loop-p-preserved : goal.loop-p-preserved
loop-p-preserved c =
    let m = c.args.scale.now.maxval in
    let xs = c.args.raster.now in
    let at = (c.args.from + c.loop-p.p) * 3 in
    let r : c.narrow-r.result ≡ eight_bits m (sample m xs at) = c.narrow-r.ensures ∙ ap (eight_bits m) (sym (narrow_is m xs at c.requires.narrow)) in
    let g : c.narrow-g.result ≡ eight_bits m (sample m xs (at + 1)) = c.narrow-g.ensures ∙ ap (eight_bits m) (sym (narrow_is m xs (at + 1) c.requires.narrow)) in
    let b : c.narrow-b.result ≡ eight_bits m (sample m xs (at + 2)) = c.narrow-b.ensures ∙ ap (eight_bits m) (sym (narrow_is m xs (at + 2) c.requires.narrow)) in
    let pixel = opaque_is m xs c.args.from c.loop-p.p c.narrow-r.result c.narrow-g.result c.narrow-b.result r g b in
    record {
      long = rw c.put_opaque.ensures (length-put_chunk _ _ _ ∙ c.loop-p.invariant.long);
      done = λ k above below. rw c.put_opaque.ensures (chunk_more (λ k. pixel_byte m xs (c.args.from * 4 + k)) c.loop-p.block _ (c.args.first * 4) (c.loop-p.p * 4) (omega arith) c.loop-p.invariant.done pixel k above (omega arith));
      before = λ k below. rw c.put_opaque.ensures (chunk_before c.loop-p.block _ (c.args.first * 4) (c.loop-p.p * 4) (omega arith) k below ∙ c.loop-p.invariant.before k below);
    }
