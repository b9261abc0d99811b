-- Decimal numbers: digits with at most one `.` anywhere among them, in units of 1/65536, rounded down.
use Rattle.std.specs.Prelude.{ℕ, ◌+◌, ◌*◌, ◌/◌, ◌^◌, List, [], ◌∷◌, ◌++◌, length, take, drop, Result, Ok, Err, nat_lt, ◌==◌, ◌||◌, if◌then◌else◌}
use Rattle.mlt_base.specs.declared.fault.NumFault.{NumFault}
use Rattle.mlt_base.specs.declared.fault.NumFault.TheVariants.{Empty, BadDigit}
use Rattle.mlt_base.specs.Reading.{held, digit_count, number, below}
use Rattle.mlt_base.specs.Steps.{◌>>=◌}

-- behind a `.`, digits to the end; on one of its two sides there is a digit
unfoldable pub fraction_at : ℕ → List ℕ → List ℕ → Result (List ℕ × List ℕ) NumFault
fraction_at at whole fraction =
    let count = digit_count fraction in
    if nat_lt count (length fraction) || length whole + count == 0 then Err (BadDigit (held (at + count))) else Ok (whole, fraction)

-- behind the first digits, the end or a `.`, which is 46
unfoldable pub point_at : ℕ → List ℕ → List ℕ → Result (List ℕ × List ℕ) NumFault
point_at at whole [] = Ok (whole, [])
point_at at whole (b ∷ rest) = if b == 46 then fraction_at (at + 1) whole rest else Err (BadDigit (held at))

-- the digits on both sides of the `.`
unfoldable pub decimal_parts : ℕ → List ℕ → Result (List ℕ × List ℕ) NumFault
decimal_parts at [] = Err Empty
decimal_parts at (b ∷ bytes) =
    let count = digit_count (b ∷ bytes) in
    point_at (at + count) (take count (b ∷ bytes)) (drop count (b ∷ bytes))

-- the exact number times 65536, rounded down
abbrev pub decimal_value : List ℕ → List ℕ → ℕ
decimal_value whole fraction = number (whole ++ fraction) * 65536 / 10 ^ length fraction

-- the decimal that begins at a place of the whole text, and is all of these bytes
unfoldable pub decimal : ℕ → List ℕ → Result ℕ NumFault
decimal at bytes = do
  parts ← decimal_parts at bytes
  below (2 ^ 32) (decimal_value parts.0 parts.1)
