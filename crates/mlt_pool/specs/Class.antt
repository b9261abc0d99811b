-- Classes of lengths.
use Rattle.std.specs.Prelude.{ℕ, zero, suc, ◌+◌, ◌^◌, Bool, nat_le, if◌then◌else◌}

-- the first number from c on that passes the test, or c + n where the n numbers from c on don't
abbrev pub first_from : (ℕ → Bool) → ℕ → ℕ → ℕ
first_from p zero c = c
first_from p (suc n) c = if p c then c else first_from p n (c + 1)

-- the class of a length: the least c from 12 to 28 with 2 ^ c at least the length
unfoldable pub class_of : ℕ → ℕ
class_of len = first_from (λ c. nat_le len (2 ^ c)) 16 12
