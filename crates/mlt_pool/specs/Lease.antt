-- What holds of the fields of a lease.
use Rattle.std.specs.Prelude.{◌≡◌, ℕ, ◌^◌, ◌≤◌, List, length}
use Rattle.mlt_pool.specs.Class.{class_of}

-- the block is of the class of the length, and holds that many bytes
pub record IsLease (block : List ℕ) (len class : ℕ) : Type 0 where
  pub class_is : class ≡ class_of len
  pub class_in : (12 ≤ class) × (class ≤ 28)
  pub block_is : length block ≡ 2 ^ class
  pub holds : len ≤ 2 ^ class
