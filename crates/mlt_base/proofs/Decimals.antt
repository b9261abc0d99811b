-- Numbers of digits: one list behind another, and a fraction from its last digit to its first.
use Rattle.std.proofs.Common.{◌≡◌, ℕ, ◌+◌, ◌-◌, ◌*◌, ◌/◌, ◌^◌, ◌<◌, List, [], ◌∷◌, ◌++◌, length, refl, sym, arith}
use Rattle.std.specs.Prelude.{fold}
use Rattle.std.proofs.Math.Nat.{mul-add-div_right, div-div-eq-div-mul, pow-suc, one-le-pow}
use Rattle.mlt_base.specs.Reading.{number}

-- one digit more
abbrev push : ℕ → ℕ → ℕ
push n digit = n * 10 + (digit - 48)

pub ten_pos : (k : ℕ) → 0 < 10 ^ k
ten_pos k = one-le-pow k 10 (omega arith)

-- digits behind a number
pub number-from : (n : ℕ) (cs : List ℕ) → fold push n cs ≡ n * 10 ^ length cs + number cs
number-from n [] = omega arith
number-from n (c ∷ cs) =
    let one = number-from (n * 10 + (c - 48)) cs in
    let two = number-from (0 * 10 + (c - 48)) cs in
    rw pow-suc (omega (arith, one, two))

pub number-cons : (c : ℕ) (cs : List ℕ) → number (c ∷ cs) ≡ (c - 48) * 10 ^ length cs + number cs
number-cons c cs = let two = number-from (0 * 10 + (c - 48)) cs in omega (arith, two)

-- one list of digits behind another
pub number-append : (a b : List ℕ) → number (a ++ b) ≡ number a * 10 ^ length b + number b
number-append a b = go 0 a b
  where
    go : (n : ℕ) (a b : List ℕ) → fold push n (a ++ b) ≡ fold push n a * 10 ^ length b + number b
    go n [] b = number-from n b
    go n (c ∷ a) b = go (push n c) a b

-- digits behind a `.`, from the last to the first
abbrev pub fraction_of : List ℕ → ℕ
fraction_of [] = 0
fraction_of (c ∷ cs) = ((c - 48) * 65536 + fraction_of cs) / 10

-- each step rounds down, and nothing is lost
pub fraction_of-is : (cs : List ℕ) → fraction_of cs ≡ number cs * 65536 / 10 ^ length cs
fraction_of-is [] = refl
fraction_of-is (c ∷ cs) =
    let p = 10 ^ length cs in
    let d = c - 48 in
    let inner : d * 65536 + number cs * 65536 / p ≡ (d * 65536 * p + number cs * 65536) / p = sym (mul-add-div_right (ten_pos (length cs)) (d * 65536) (number cs * 65536)) in
    let top : d * 65536 * p + number cs * 65536 ≡ number (c ∷ cs) * 65536 = rw number-cons (omega arith) in
    rw (fraction_of-is cs, inner, div-div-eq-div-mul, top, pow-suc) refl

-- the whole part and the fraction make the number
pub decimal_value-is : (a b : List ℕ) → number (a ++ b) * 65536 / 10 ^ length b ≡ number a * 65536 + number b * 65536 / 10 ^ length b
decimal_value-is a b =
    let p = 10 ^ length b in
    let top : number (a ++ b) * 65536 ≡ number a * 65536 * p + number b * 65536 = rw number-append (omega arith) in
    rw top (mul-add-div_right (ten_pos (length b)) (number a * 65536) (number b * 65536))
