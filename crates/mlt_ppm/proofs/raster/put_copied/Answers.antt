use Rattle.std.proofs.Common.{◌≡◌, ℕ, ◌+◌, ◌*◌, ◌<◌, ◌≤◌, length, get_or, map, sym, subst, ◌∙◌, arith}
use Rattle.std.proofs.lemmas.Simd.{length-put_chunk}
use Rattle.mlt_base.specs.Ppm.{pixel_byte}
use Rattle.mlt_ppm.proofs.Pixels.{chunk_more}
use Rattle.mlt_ppm.proofs.Lanes.{lanes, places, spread_is}
use Rattle.mlt_ppm.proofs.raster.put_copied.Goals as goal

pub loop-p-preserved : goal.loop-p-preserved
loop-p-preserved c =
    let m = c.args.scale.now.maxval in
    let xs = c.args.raster.now in
    let at = (c.args.from + c.loop-p.p) * 3 in
    let room : at + 16 ≤ length xs = omega arith in
    let four = map (λ k. get_or (lanes xs at) k 0) places in
    let spread : (j : ℕ) → j < 16 → get_or four j 0 ≡ pixel_byte m xs (c.args.from * 4 + (c.loop-p.p * 4 + j)) = subst (λ (m : ℕ). (j : ℕ) → j < 16 → get_or four j 0 ≡ pixel_byte m xs (c.args.from * 4 + (c.loop-p.p * 4 + j))) (sym c.requires.plain) (spread_is xs c.args.from c.loop-p.p (λ i. (c.type_inv.raster i).fits) room) in
    record {
      long = length-put_chunk (c.loop-p.p * 4) c.loop-p.block four ∙ c.loop-p.invariant.long;
      within = omega arith;
      done = λ k below. chunk_more (λ k. pixel_byte m xs (c.args.from * 4 + k)) c.loop-p.block four 0 (c.loop-p.p * 4) (omega arith) (λ k above below. c.loop-p.invariant.done k below) spread k (omega arith) (omega arith);
    }
