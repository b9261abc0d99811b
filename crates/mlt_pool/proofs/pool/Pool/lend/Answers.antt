use Rattle.std.proofs.Common.{◌^◌, ap, ◌∙◌}
use Rattle.mlt_pool.proofs.Counting.{class_there, still_shelves, after_lend}
use Rattle.mlt_pool.proofs.pool.Pool.lend.Goals as goal

pub new-requires-clause-block : goal.new-requires-clause-block
new-requires-clause-block c =
    c.in_ok-block.ensures.some.0 ∙ ap (λ n. 2 ^ n) (class_there c.self.inside.shelves c.self.invariant c.of_length-class.result c.from.result c.of_length-class.ensures.within c.from.ensures c.index-self-from.result)

pub invariant_of-self-2 : goal.invariant_of-self-2
invariant_of-self-2 c =
    still_shelves c.self.inside.shelves c.self.invariant c.of_length-class.result c.from.result c.of_length-class.ensures.within c.from.ensures c.index-self-from.result c.lend.new.self c.in_ok-block.ensures.some.1

pub returns : goal.returns
returns c =
    let is = c.of_length-class.ensures in let moved = c.in_ok-block.ensures.some in
    let made = after_lend c.self.inside.shelves c.self.invariant c.of_length-class.result c.from.result is.within c.from.ensures c.index-self-from.result c.lend.new.self moved.2 moved.3 c.args.self.now _ c.self.view_is is.class in
    record { none = tt; some = (c.new.ensures.len, made.0); counts = made.1 }
