-- A text that is split in two at its first mark.
use Rattle.std.specs.Prelude.{ℕ, List, length, Option, Some, None, nat_lt, ◌==◌, if◌then◌else◌}
use Rattle.std.specs.List.{position_or_len, before_first, after_first}

-- what stands before the first mark, and what stands behind it
unfoldable pub split_once : ℕ → List ℕ → Option (List ℕ × List ℕ)
split_once mark bytes =
    if nat_lt (position_or_len (λ b. b == mark) bytes) (length bytes)
    then Some (before_first (λ b. b == mark) bytes, after_first (λ b. b == mark) bytes)
    else None
