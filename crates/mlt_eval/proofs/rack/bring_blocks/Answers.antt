use Rattle.std.proofs.Common.{ℕ, ◌<◌, [], ◌∷◌, sym, ap, ◌∙◌, subst, length, length-append, arith}
use Rattle.mlt_pool.specs.Class.{class_of}
use Rattle.mlt_pool.specs.Counts.{lent_of, brought, IsOneLent}
use Rattle.mlt_eval.proofs.Lending.{lent_none, home_more, brought_none, brought_more, sized_less}
use Rattle.mlt_eval.proofs.rack.bring_blocks.Goals as goal

pub loop-place-init : goal.loop-place-init
loop-place-init c = record {
  pool = sym (brought_none (class_of c.args._size) c.args.pool.now);
  counts = lent_none (class_of c.args._size) c.args.pool.now;
  left = omega arith;
  sizes = c.requires.sizes;
}

pub home-requires : goal.home-requires
home-requires c =
    let so_far = c.loop-place.invariant in
    let split = sized_less c.args._size c.loop-place.blocks.items c.take_last.new.self.items c.take_last.result c.take_last.ensures.items so_far.sizes in
    let shorter = ap length c.take_last.ensures.items ∙ length-append c.take_last.new.self.items (c.take_last.result ∷ []) in
    let some : 0 < lent_of c.loop-place.pool (class_of c.args._size) = omega (arith, so_far.counts.lent, so_far.left, c.requires.lent, shorter) in
    subst (λ (n : ℕ). 0 < lent_of c.loop-place.pool (class_of n)) (sym split.0) some

pub loop-place-preserved : goal.loop-place-preserved
loop-place-preserved c =
    let so_far = c.loop-place.invariant in let class : ℕ = class_of c.args._size in
    let split = sized_less c.args._size c.loop-place.blocks.items c.take_last.new.self.items c.take_last.result c.take_last.ensures.items so_far.sizes in
    let shorter = ap length c.take_last.ensures.items ∙ length-append c.take_last.new.self.items (c.take_last.result ∷ []) in
    let one = subst (λ (n : ℕ). IsOneLent (class_of n) c.home.new.self c.loop-place.pool) split.0 c.home.ensures.counts in
    record {
      pool = c.home.ensures.new ∙ ap (λ (n : ℕ). brought (class_of n) 1 c.loop-place.pool) split.0 ∙ ap (brought class 1) so_far.pool
          ∙ brought_more class c.args.pool.now c.loop-place._place;
      counts = home_more class c.loop-place._place c.home.new.self c.loop-place.pool c.args.pool.now one so_far.counts;
      left = omega (arith, so_far.left, shorter);
      sizes = split.1;
    }
