-- The pieces of every grammar of numbers: digits, marks and the end of the text, each with its first fault.
use Rattle.std.specs.Prelude.{ℕ, ◌+◌, ◌-◌, ◌*◌, ◌^◌, ◌<◌, ◌≤◌, List, [], ◌∷◌, take, drop, length, Result, Ok, Err, min, fold, nat_lt, ◌==◌, if◌then◌else◌}
use Rattle.std.specs.Char.{is_ascii_digit}
use Rattle.mlt_base.specs.declared.fault.NumFault.{NumFault}
use Rattle.mlt_base.specs.declared.fault.NumFault.TheVariants.{BadDigit, TooLarge}

-- a place, as a fault can tell it
unfoldable pub held : ℕ → ℕ
held place = min place (2 ^ 32 - 1)

-- `0` to `9` alone
abbrev pub AreDigits : List ℕ → Type 0
AreDigits [] = Unit {0}
AreDigits (b ∷ bytes) = (48 ≤ b) × (b ≤ 57) × AreDigits bytes

-- one digit or more
abbrev pub IsNumeral : List ℕ → Type 0
IsNumeral bytes = (0 < length bytes) × AreDigits bytes

-- how many digits the bytes begin with
abbrev pub digit_count : List ℕ → ℕ
digit_count [] = 0
digit_count (b ∷ bytes) = if is_ascii_digit b then digit_count bytes + 1 else 0

-- the number that digits write
abbrev pub number : List ℕ → ℕ
number digits = fold (λ n digit. n * 10 + (digit - 48)) 0 digits

-- one or more digits: they, the place behind them, and the bytes from there on
unfoldable pub digits_at : ℕ → List ℕ → Result (List ℕ × ℕ × List ℕ) NumFault
digits_at at bytes =
    let count = digit_count bytes in
    if count == 0 then Err (BadDigit (held at)) else Ok (take count bytes, at + count, drop count bytes)

-- this one byte: the place behind it, and the bytes from there on
unfoldable pub mark_at : ℕ → ℕ → List ℕ → Result (ℕ × List ℕ) NumFault
mark_at mark at [] = Err (BadDigit (held at))
mark_at mark at (b ∷ rest) = if b == mark then Ok (at + 1, rest) else Err (BadDigit (held at))

-- the end of the text
unfoldable pub end_at : ℕ → List ℕ → Result (Unit {0}) NumFault
end_at at [] = Ok tt
end_at at (b ∷ rest) = Err (BadDigit (held at))

-- a number that has to be below a limit
unfoldable pub below : ℕ → ℕ → Result ℕ NumFault
below limit n = if nat_lt n limit then Ok n else Err TooLarge
