use Rattle.std.proofs.Common.{ℕ, [], ◌∷◌, refl, sym, ap, ◌∙◌, length, length-append, arith}
use Rattle.mlt_pool.specs.Class.{class_of}
use Rattle.mlt_pool.specs.Counts.{lent_out}
use Rattle.mlt_eval.proofs.Lending.{lent_none, lent_more, lent_out_none, lent_out_more, sized_more}
use Rattle.mlt_eval.proofs.rack.lend_blocks.Goals as goal

pub loop-place-init : goal.loop-place-init
loop-place-init c = record {
  pool = sym (lent_out_none (class_of c.args.len) c.args.pool.now);
  counts = lent_none (class_of c.args.len) c.args.pool.now;
  count = ap length c.requires.empty;
  sizes = λ k d lt. absurd (omega (arith, ap length c.requires.empty, lt));
  room = refl;
}

pub loop-place-preserved : goal.loop-place-preserved
loop-place-preserved c =
    let so_far = c.loop-place.invariant in let lent = c.in-Some.ensures in let class : ℕ = class_of c.args.len in
    record {
      pool = lent.some.1 ∙ ap (lent_out class 1) so_far.pool ∙ lent_out_more class c.args.pool.now c.loop-place._place;
      counts = lent_more class c.loop-place._place c.args.pool.now c.loop-place.pool c.lend.new.self so_far.counts lent.counts;
      count = ap length c.push_reserved.ensures.items ∙ length-append c.loop-place.blocks.items (c.in-Some.lease ∷ []) ∙ omega (arith, so_far.count);
      sizes = sized_more c.args.len c.loop-place.blocks.items c.push_reserved.new.self.items c.in-Some.lease c.push_reserved.ensures.items so_far.sizes lent.some.0;
      room = c.push_reserved.ensures.capacity ∙ so_far.room;
    }
