-- The alphas of some pixels of a picture.
use Rattle.std.specs.Prelude.{ℕ, ◌≡◌, ◌+◌, ◌*◌, ◌<◌, ◌≤◌, List, slice_index}

-- one of the pixels `from` to before `to` has this alpha
abbrev pub HasAlpha : List ℕ → (from to alpha : ℕ) → Type 0
HasAlpha xs from to alpha = (p : ℕ) × (from ≤ p) × (p < to) × (slice_index xs (p * 4 + 3) ≡ alpha)
