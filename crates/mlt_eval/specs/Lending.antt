-- Several blocks of a pool that are lent together.
use Rattle.std.specs.Prelude.{◌≡◌, ◌≢◌, ℕ, ◌+◌, ◌≤◌}
use Rattle.mlt_pool.specs.Counts.{Counts, home_of, lent_of, reserved_of, all_lent}

-- of two pools, n blocks of a class are home in the first and lent in the second, and all else is alike
pub record AreLent (class n : ℕ) (first second : Counts) : Type 0 where
  pub home : home_of second class + n ≡ home_of first class
  pub lent : lent_of second class ≡ lent_of first class + n
  pub all : all_lent second ≡ all_lent first + n
  pub others : (other : ℕ) → 12 ≤ other → other ≢ class → (home_of second other ≡ home_of first other) × (lent_of second other ≡ lent_of first other)
  pub reserved : (any : ℕ) → 12 ≤ any → reserved_of second any ≡ reserved_of first any
