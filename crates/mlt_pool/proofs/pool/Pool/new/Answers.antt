use Rattle.mlt_pool.proofs.Counting.{new_shelves, new_counts}
use Rattle.mlt_pool.proofs.pool.Pool.new.Goals as goal

pub invariant_of-result : goal.invariant_of-result
invariant_of-result c = let made = c.from_fn.ensures.items in new_shelves c.from_fn.result made.long (λ i d lt. (made.at i d lt).2.met.0)

pub returns : goal.returns
returns c = let made = c.from_fn.ensures.items in new_counts c.from_fn.result made.long (λ i d lt. (made.at i d lt).2.met.0)
