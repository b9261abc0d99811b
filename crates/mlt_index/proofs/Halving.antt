-- Binary digits of a number, and of its half.
use Rattle.std.proofs.Common.{◌≡◌, ℕ, zero, suc, ◌+◌, ◌^◌, ◌<◌, ◌≤◌, Bool, true, false, cond, ltb, inl, inr, refl, arith}
use Rattle.std.proofs.Math.Pow.{pow_mono}
use Rattle.std.proofs.lemmas.Bool.Decides.{nat_tests}
use Rattle.std.proofs.lemmas.Grind.{pow_more}
use Rattle.std.proofs.lemmas.Bool.{cases_lt}
use Rattle.mlt_index.specs.Digits.{binary_digits}

-- a number is below the power of its digits
below : (n : ℕ) → n < 2 ^ binary_digits n
below zero = omega arith
below (suc n) = by (binary_digits n) (below n) (ltb (n + 1) (2 ^ binary_digits n)) refl where
  by : (d : ℕ) → n < 2 ^ d → (t : Bool) → ltb (n + 1) (2 ^ d) ≡ t → suc n < 2 ^ cond t d (d + 1)
  by d h true is = grind (arith, nat_tests)
  by d h false is = let past : 2 ^ d ≤ n + 1 = grind (arith, nat_tests) in omega (arith, pow_more 2 d)

-- and no smaller power is above it
pub digits_least : (n d : ℕ) → n < 2 ^ d → binary_digits n ≤ d
digits_least zero d h = omega arith
digits_least (suc n) d h = by (binary_digits n) (digits_least n d (omega arith)) (ltb (n + 1) (2 ^ binary_digits n)) refl where
  smaller : (e : ℕ) → 2 ^ e ≤ n + 1 → (e < d) → e + 1 ≤ d
  smaller e past less = omega arith

  by : (e : ℕ) → e ≤ d → (t : Bool) → ltb (n + 1) (2 ^ e) ≡ t → cond t e (e + 1) ≤ d
  by e le true is = le
  by e le false is =
      let past : 2 ^ e ≤ n + 1 = grind (arith, nat_tests) in
      elim (cases_lt e d) [ inl less ↦ omega arith | inr more ↦ absurd (omega (arith, pow_mono more)) ]

-- at most half of a number has a digit less
pub digits_halved : (n m : ℕ) → 0 < n → m + m ≤ n → binary_digits m + 1 ≤ binary_digits n
digits_halved n m some half = by (binary_digits n) (below n) where
  by : (d : ℕ) → n < 2 ^ d → binary_digits m + 1 ≤ d
  by zero h = absurd (omega arith)
  by (suc d) h = omega (arith, digits_least m d (omega (arith, pow_more 2 d)))

-- at most one more than twice a number has at most a digit more
pub digits_doubled : (n m : ℕ) → n ≤ m + m + 1 → binary_digits n ≤ binary_digits m + 1
digits_doubled n m twice = digits_least n (binary_digits m + 1) (omega (arith, below m, pow_more 2 (binary_digits m)))

-- one more has no fewer digits
pub digits_more : (n : ℕ) → binary_digits n ≤ binary_digits (n + 1)
digits_more n = digits_least n (binary_digits (n + 1)) (omega (arith, below (n + 1)))
