use Rattle.std.proofs.Common.{ap, arith}
use Rattle.std.proofs.lemmas.List.Sums.{get_or-le-sum_by, sum-map}
use Rattle.mlt_pool.specs.Counts.{all_lent}
use Rattle.mlt_pool.proofs.pool.Pool.close.Goals as goal

pub end_all-requires : goal.end_all-requires
end_all-requires c k d lt =
    let shelves = c.self.inside.shelves in
    omega (arith, get_or-le-sum_by (λ s. s.lent) shelves k d lt, sum-map (λ s. s.lent) shelves, ap all_lent c.self.view_is, c.requires)
