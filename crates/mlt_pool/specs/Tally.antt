-- The blocks of one class.
use Rattle.std.specs.Prelude.{◌≡◌, ℕ, ◌^◌, ◌<◌, ◌≤◌, List, length, map, All}
use Rattle.std.specs.List.{range_with_len}
use Rattle.mlt_pool.specs.Counts.{Counts}

-- how many blocks of the class are home, and how many are lent
pub record Tally : Type 0 where
  pub class : ℕ
  pub home : ℕ
  pub lent : ℕ

-- what holds of a shelf with these blocks home, of the number reserved, and with room for so many
pub record IsShelf (class : ℕ) (blocks : List (List ℕ)) (home room reserved : ℕ) : Type 0 where
  pub class_in : (12 ≤ class) × (class ≤ 28)
  pub sized : All (λ b. length b ≡ 2 ^ class) blocks
  pub counted : home ≤ reserved
  -- a block that is lent has its place kept
  pub kept : reserved ≤ room
  pub few : reserved < 2 ^ 32

-- the classes of a pool's shelves, in their order
abbrev pub classes : List ℕ
classes = range_with_len 12 17

-- what a pool with these shelves is seen as
abbrev pub counts_of : List Tally → Counts
counts_of shelves = record { home = map (λ s. s.home) shelves; lent = map (λ s. s.lent) shelves }

-- the shelves of a pool are those of the classes 12 to 28
abbrev pub AreShelves : List Tally → Type 0
AreShelves shelves = map (λ s. s.class) shelves ≡ classes
