-- Whole numbers: an optional `-`, then digits.
use Rattle.std.specs.Prelude.{ℕ, ◌^◌, ℤ, pos, neg_ℤ, List, [], ◌∷◌, Result, Ok, Err, nat_lt, nat_le, ◌==◌, if◌then◌else◌}
use Rattle.mlt_base.specs.declared.fault.NumFault.{NumFault}
use Rattle.mlt_base.specs.declared.fault.NumFault.TheVariants.{Empty, TooLarge}
use Rattle.mlt_base.specs.Reading.{number, digits_at, end_at}
use Rattle.mlt_base.specs.Steps.{◌>>=◌}

-- one or more digits, and nothing behind them
unfoldable pub digits_to_end : ℕ → List ℕ → Result (List ℕ) NumFault
digits_to_end at [] = Err Empty
digits_to_end at (b ∷ bytes) = do
  digits ← digits_at at (b ∷ bytes)
  end ← end_at digits.1 digits.2
  Ok digits.0

-- the number, where it fits 64 bits with a sign
unfoldable pub positive : ℕ → Result ℤ NumFault
positive n = if nat_lt n (2 ^ 63) then Ok (pos n) else Err TooLarge

-- the number below 0, where it fits 64 bits with a sign
unfoldable pub negative : ℕ → Result ℤ NumFault
negative n = if nat_le n (2 ^ 63) then Ok (neg_ℤ (pos n)) else Err TooLarge

-- 45 is `-`
unfoldable pub whole : List ℕ → Result ℤ NumFault
whole [] = Err Empty
whole (b ∷ bytes) =
    if b == 45 then (digits_to_end 1 bytes >>= λ digits. negative (number digits))
    else (digits_to_end 0 (b ∷ bytes) >>= λ digits. positive (number digits))
