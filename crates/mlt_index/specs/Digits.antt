-- Binary digits.
use Rattle.std.specs.Prelude.{ℕ, zero, suc, ◌+◌, ◌^◌, nat_lt, if◌then◌else◌}

-- how many binary digits a number has: the least d for which the number is below 2^d, so none for 0
abbrev pub binary_digits : ℕ → ℕ
binary_digits zero = 0
binary_digits (suc n) = enough (binary_digits n) where
  enough : ℕ → ℕ
  enough d = if nat_lt (n + 1) (2 ^ d) then d else d + 1
