-- Groups of samples of frames.
use Rattle.std.proofs.Common.{◌≡◌, ℕ, ◌+◌, ◌-◌, ◌*◌, ◌/◌, ◌%◌, ◌<◌, ◌≤◌, sym, ap, arith}
use Rattle.std.proofs.Math.Nat.{mul-add-div_right, div-le_of_le-mul, lt-div-mul-add}
use Rattle.std.proofs.lemmas.Nat.{div-add-mod', div_below, mul-le}
use Rattle.mlt_base.specs.Samples.{samples_to, samples, most_samples}

-- the whole quotient first, so that no product is large
pub quotient_first : (n d k : ℕ) → 0 < k → n * (d / k) + n * (d % k) / k ≡ n * d / k
quotient_first n d k pos =
    let q = d / k in
    let r = d % k in
    let parts : n * d ≡ n * (q * k + r) = ap (λ (x : ℕ). n * x) (sym (div-add-mod' d k)) in
    let top : n * d ≡ n * q * k + n * r = omega (arith, parts) in
    rw top (sym (mul-add-div_right pos (n * q) (n * r)))

-- at least one frame a second
pub samples_to-le : (num den n : ℕ) → den ≤ num → samples_to num den n ≤ 48000 * n
samples_to-le num den n h =
    let less : n * 48000 * den ≤ n * 48000 * num = mul-le (n * 48000) den (n * 48000) num (omega arith) h in
    div-le_of_le-mul num (omega (arith, less))

-- a step on adds at most the step's quotient, rounded up
pub step_le : (x d k : ℕ) → 0 < k → (x + d) / k ≤ x / k + (d + k - 1) / k
step_le x d k pos =
    let most = (d + k - 1) / k in
    let one : x < x / k * k + k = lt-div-mul-add pos in
    let two : d + k - 1 < most * k + k = lt-div-mul-add pos in
    let all : x + d < (x / k + most + 1) * k = omega (arith, one, two) in
    omega (arith, div_below (x + d) k (x / k + most + 1) pos all)

pub samples_le : (num den n : ℕ) → 0 < num → samples num den n ≤ most_samples num den
samples_le num den n pos =
    let next : (n + 1) * 48000 * den ≡ n * 48000 * den + 48000 * den = omega arith in
    let step = step_le (n * 48000 * den) (48000 * den) num pos in
    rw next (omega (arith, step))

pub most_samples-le : (num den : ℕ) → 0 < num → den ≤ num → most_samples num den ≤ 48000
most_samples-le num den pos h = omega (arith, div_below (48000 * den + num - 1) num 48001 pos (omega arith))
