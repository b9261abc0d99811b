-- A clock's frames are at least its seconds.
use Rattle.std.proofs.Common.{◌≡◌, ℕ, ◌+◌, ◌*◌, ◌/◌, ◌<◌, ◌≤◌, min, arith}
use Rattle.std.proofs.lemmas.Nat.{le-div, mul-le}
use Rattle.mlt_base.specs.Time.{frames_a_second}

pub clock_ge : (seconds milliseconds num den : ℕ) → 0 < den → den ≤ num → seconds ≤ (seconds * 1000 + milliseconds) * num / (1000 * den)
clock_ge seconds milliseconds num den pos h =
    let less : seconds * 1000 * den ≤ (seconds * 1000 + milliseconds) * num = mul-le (seconds * 1000) den (seconds * 1000 + milliseconds) num (omega arith) h in
    le-div seconds ((seconds * 1000 + milliseconds) * num) (1000 * den) (omega arith) (omega (arith, less))

pub counted_ge : (seconds frames num den : ℕ) → 0 < den → den ≤ num → seconds ≤ seconds * frames_a_second num den + frames
counted_ge seconds frames num den pos h =
    let whole : 1 ≤ num / den = le-div 1 num den pos (omega arith) in
    let one : 1 ≤ frames_a_second num den = omega (arith, whole) in
    let less : seconds * 1 ≤ seconds * frames_a_second num den = mul-le seconds 1 seconds (frames_a_second num den) (omega arith) one in
    omega (arith, less)

-- whole seconds that were not held, and frames that may have been
pub held_sum : (s exact_s r exact_r f exact_f n limit : ℕ) → s ≡ min exact_s limit → s < limit → r ≡ exact_r → f ≡ min exact_f limit → n ≡ min (s * r + f) limit → n ≡ min (exact_s * exact_r + exact_f) limit
held_sum s exact_s r exact_r f exact_f n limit hs small hr hf hn =
    let same : exact_s ≡ s = omega arith in
    rw (same, ← hr) (omega arith)
