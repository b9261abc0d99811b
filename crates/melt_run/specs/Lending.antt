-- What a pool has lent.
use Rattle.std.specs.Prelude.{◌≡◌, ℕ, ◌≤◌}
use Rattle.mlt_pool.specs.Counts.{Counts, lent_of, all_lent}

-- two pools have lent as many blocks of each class
pub record LendsAlike (first second : Counts) : Type 0 where
  pub all : all_lent second ≡ all_lent first
  pub each : (class : ℕ) → 12 ≤ class → lent_of second class ≡ lent_of first class
