-- A row of bytes with zeros on both sides.
use Rattle.std.specs.Prelude.{ℕ, ◌≡◌, ◌+◌, ◌<◌, List, slice_index}

-- so many bytes from a place on are f, and all others 0
pub record IsBordered (left count : ℕ) (f : ℕ → ℕ) (row : List ℕ) : Type 0 where
  pub before : (k : ℕ) → k < left → slice_index row k ≡ 0
  pub inside : (j : ℕ) → j < count → slice_index row (left + j) ≡ f j
  pub behind : (j : ℕ) → slice_index row (left + count + j) ≡ 0
