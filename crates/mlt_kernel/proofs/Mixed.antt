-- The mixture of two bytes, from the lesser one upwards.
use Rattle.std.proofs.Common.{◌≡◌, ℕ, ◌+◌, ◌-◌, ◌*◌, ◌/◌, ◌≤◌, ap, arith}
use Rattle.mlt_base.specs.Mixing.{blended}

-- from the lesser x upwards by the share of z
pub raised_up : (x z q low gap r : ℕ) → q ≤ 65536 → low ≡ x → z ≡ x + gap → r ≡ (gap * q + 32768) / 65536 → low + r ≡ blended q x z
raised_up x z q low gap r few is up share =
    let p : ℕ = 65536 - q in
    let whole : p + q ≡ 65536 = omega arith in
    let under : x * (p + q) ≡ x * 65536 = ap (λ s. x * s) whole in
    let over : z * q ≡ (x + gap) * q = ap (λ s. s * q) up in
    omega arith

-- from the lesser z upwards by the share of x
pub raised_down : (x z q p low gap r : ℕ) → p + q ≡ 65536 → low ≡ z → x ≡ z + gap → r ≡ (gap * p + 32768) / 65536 → low + r ≡ blended q x z
raised_down x z q p low gap r all is up share =
    let rest : 65536 - q ≡ p = omega arith in
    let whole : z * (p + q) ≡ z * 65536 = ap (λ s. z * s) all in
    let over : x * p ≡ (z + gap) * p = ap (λ s. s * p) up in
    let under : x * (65536 - q) ≡ x * p = ap (λ s. x * s) rest in
    omega arith

-- the whole of z
pub mixed_whole : (q x z : ℕ) → q ≡ 65536 → z ≡ blended q x z
mixed_whole q x z e = rw e (omega arith)

-- nothing of z
pub mixed_none : (q x z : ℕ) → q ≡ 0 → x ≡ blended q x z
mixed_none q x z e = rw e (omega arith)
