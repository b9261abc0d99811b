-- The four bytes of a word.
use Rattle.std.proofs.Common.{◌≡◌, ℕ, ◌+◌, ◌/◌, ◌%◌, ◌<◌, ◌^◌, [], ◌∷◌, arith}

-- the digits of a word to the base 256, as std's bytes of a lane say them
pub digits_are : (w : ℕ) → w < 2 ^ 32
    → (w + 0) % 256 ∷ (w + 0) / 256 % 256 ∷ (w + 0) / 256 / 256 % 256 ∷ (w + 0) / 256 / 256 / 256 % 256 ∷ []
    ≡ w % 256 ∷ w / 256 % 256 ∷ w / 65536 % 256 ∷ w / 16777216 ∷ []
digits_are w fits =
    let first : (w + 0) % 256 ≡ w % 256 = omega arith in
    let second : (w + 0) / 256 % 256 ≡ w / 256 % 256 = omega arith in
    let third : (w + 0) / 256 / 256 % 256 ≡ w / 65536 % 256 = omega arith in
    let fourth : (w + 0) / 256 / 256 / 256 % 256 ≡ w / 16777216 = omega arith in
    cc
