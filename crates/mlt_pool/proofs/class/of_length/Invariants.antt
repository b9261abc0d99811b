use Rattle.std.proofs.Common.{◌≡◌, ◌≤◌, ◌-◌, ◌^◌, nat_le}
use Rattle.mlt_pool.specs.Class.{class_of, first_from}
use Rattle.mlt_pool.proofs.class.of_length.Given as goal

abbrev pub invariant-loop-size : goal.invariant-loop-size
invariant-loop-size l = (l.size ≡ 2 ^ l.class) × (12 ≤ l.class) × (l.class ≤ 28) × (first_from (λ c. nat_le l.len (2 ^ c)) (28 - l.class) l.class ≡ class_of l.len)

abbrev pub decreases-loop-size : goal.decreases-loop-size
decreases-loop-size l = 28 - l.class
