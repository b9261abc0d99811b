use Rattle.std.proofs.Common.{refl, sym, ◌∙◌, ◌-◌, arith}
use Rattle.mlt_pool.proofs.Classes.{class_of-is, ends_at, goes_up}
use Rattle.mlt_pool.proofs.class.of_length.Goals as goal

pub loop-size-init : goal.loop-size-init
loop-size-init c = (refl, omega arith, omega arith, class_of-is c.args.len)

pub loop-size-preserved : goal.loop-size-preserved
loop-size-preserved c =
    let so_far = c.loop-size.invariant in
    let next = goes_up c.args.len c.loop-size.class c.loop-size.size c.requires so_far.0 c.loop-size-test.true so_far.3 in
    (next.1, omega (arith, so_far.1), next.0, next.2)

pub returns : goal.returns
returns c = let so_far = c.loop-size.invariant in record {
  class = sym (ends_at c.args.len (28 - c.loop-size.class) c.loop-size.class (omega (arith, so_far.0, c.loop-size-test.false))) ∙ so_far.3;
  within = (so_far.1, so_far.2);
  holds = omega (arith, so_far.0, c.loop-size-test.false);
}
