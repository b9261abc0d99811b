use Rattle.std.proofs.lemmas.Result.{on_ok_weaker}
use Rattle.mlt_pool.proofs.Counting.{still_shelves, after_reserve}
use Rattle.mlt_pool.proofs.pool.Pool.reserve.Goals as goal

pub invariant_of-self : goal.invariant_of-self
invariant_of-self c = still_shelves c.self.inside.shelves c.self.invariant c.args.class c.from.result c.requires c.from.ensures c.index-self-from.result c.reserve.new.self c.reserve.ensures.class

pub returns-clause-ok : goal.returns-clause-ok
returns-clause-ok c = on_ok_weaker c.reserve.result (λ made. (after_reserve c.self.inside.shelves c.self.invariant c.args.class c.from.result c.requires c.from.ensures c.index-self-from.result c.reserve.new.self c.args.count c.args.self.now c.self.view_is made).0) c.reserve.ensures.ok

pub returns-clause-counts : goal.returns-clause-counts
returns-clause-counts c = on_ok_weaker c.reserve.result (λ made. (after_reserve c.self.inside.shelves c.self.invariant c.args.class c.from.result c.requires c.from.ensures c.index-self-from.result c.reserve.new.self c.args.count c.args.self.now c.self.view_is made).1) c.reserve.ensures.ok
