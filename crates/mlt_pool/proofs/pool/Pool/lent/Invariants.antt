use Rattle.std.proofs.Common.{◌≡◌, ◌*◌, ◌≤◌, ◌^◌, take, sum_by}
use Rattle.mlt_pool.proofs.pool.Pool.lent.Given as goal

-- the blocks lent of the shelves so far, each of which has fewer than 2 ^ 32
abbrev pub invariant-loop-shelf : goal.invariant-loop-shelf
invariant-loop-shelf l = (l.total ≡ sum_by (λ s. s.lent) (take l.shelf-index l.shelf-items)) × (l.total ≤ l.shelf-index * 2 ^ 32)
