use Rattle.std.proofs.Common.{◌≡◌, ◌*◌, bit_and, ◌∙◌, sym, arith}
use Rattle.std.specs.Simd.Lanes.{chunk}
use Rattle.std.proofs.lemmas.Bool.{eqb-true}
use Rattle.std.proofs.lemmas.Simd.{get_or-put_chunk_below, length-zip2, length-chunk}
use Rattle.mlt_image.proofs.Lanes.{moved, stored, common_more, all_opaque}
use Rattle.mlt_image.proofs.black.move_colours.Goals as goal

pub loop-p-preserved : goal.loop-p-preserved
loop-p-preserved c =
    let src = c.args.src.now in let dst = c.loop-p.dst in let p = c.loop-p.p in let so_far = c.loop-p.invariant in
    record {
      from = omega arith;
      within = omega arith;
      fours = omega arith;
      long = length-zip2 bit_and c.loop-p.common (chunk (p * 4) 16 src) (so_far.long ∙ sym (length-chunk (p * 4) 16 src (omega arith))) ∙ so_far.long;
      common = common_more src c.loop-p.common c.args.from p so_far.long so_far.from so_far.fours (omega arith) so_far.common;
      done = λ k from lt. stored src dst c.args.from p k (omega arith) (omega arith) so_far.done from lt;
      before = λ k lt. get_or-put_chunk_below (p * 3) dst (moved src (p * 4)) k 0 (omega arith) ∙ so_far.before k lt;
    }

pub returns-clause-done : goal.returns-clause-done
returns-clause-done c = λ h.
    let full : c.min-alpha.result ≡ 255 = eqb-true c.min-alpha.result 255 h in
    all_opaque c.args.src.now c.loop-p.dst c.loop-p.common c.args.from c.loop-p.p (λ k. omega (arith, c.type_inv.src k)) c.loop-p.invariant.common
    (omega (arith, full)) (omega (arith, full)) (omega (arith, full)) (omega (arith, full)) c.loop-p.invariant.done
