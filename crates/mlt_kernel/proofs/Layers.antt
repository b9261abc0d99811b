-- What a byte is where one picture is laid over another.
use Rattle.std.proofs.Common.{◌≡◌, ◌≢◌, ℕ, zero, suc, ◌+◌, ◌-◌, ◌*◌, ◌/◌, ◌%◌, ◌<◌, ◌==◌, ◌⊎◌, inl, inr, if◌then◌else◌, List, get_or, sym, ap, ◌∙◌, arith}
use Rattle.std.proofs.lemmas.Nat.{div-mul-add}
use Rattle.std.proofs.Math.Dec.{eqb-suc-zero}
use Rattle.mlt_base.specs.Mixing.{strength, weight, laid, laid_channel, laid_over}
use Rattle.mlt_kernel.specs.declared.pixel.Pixel.{Pixel}

-- ---- one channel

-- a colour whose product with the weight is known
laid_is : (t a b x z v : ℕ) → 0 < t → z * b * 255 + x * a * (255 - b) ≡ v * t → v ≡ laid t a b x z
laid_is t a b x z v h e = sym (ap (λ n. (n + t / 2) / t) e ∙ div-mul-add v t (t / 2) (omega arith))

-- where something can be seen, a colour is not 0 for want of weight
colour_is : (t a b x z v : ℕ) → 0 < t → v ≡ laid t a b x z → v ≡ (if t == 0 then 0 else laid t a b x z)
colour_is zero a b x z v h e = absurd (omega arith)
colour_is (suc t) a b x z v h e = rw (eqb-suc-zero t) e

-- a colour under a clear one
under_clear : (a x z : ℕ) → 0 < a → x ≡ laid (weight a 0) a 0 x z
under_clear a x z h = laid_is (weight a 0) a 0 x z x (omega arith) (omega arith)

-- a colour stays where what is above can't be seen
pub under : (a b x z : ℕ) → b ≡ 0 → 0 < a → x ≡ (if weight a b == 0 then 0 else laid (weight a b) a b x z)
under a b x z e h = rw e (colour_is (weight a 0) a 0 x z x (omega arith) (under_clear a x z h))

-- a colour over a clear one
over_clear : (b x z : ℕ) → 0 < b → z ≡ laid (weight 0 b) 0 b x z
over_clear b x z h = laid_is (weight 0 b) 0 b x z z (omega arith) (omega arith)

-- an opaque colour over any
opaque_over : (a x z : ℕ) → z ≡ laid (weight a 255) a 255 x z
opaque_over a x z = laid_is (weight a 255) a 255 x z z (omega arith) (omega arith)

-- the colour above is taken where it is opaque, or what is below can't be seen
pub above : (a b x z : ℕ) → (b ≡ 255) ⊎ ((b ≢ 255) × (a ≡ 0)) → 0 < b → z ≡ (if weight a b == 0 then 0 else laid (weight a b) a b x z)
above a b x z (inl e) h = rw e (colour_is (weight a 255) a 255 x z z (omega arith) (opaque_over a x z))
above a b x z (inr e) h = rw e.1 (colour_is (weight 0 b) 0 b x z z (omega arith) (over_clear b x z h))

-- ---- one byte

-- byte k is channel c of pixel p, of which this is known
channel_is : (o : ℕ) (xs zs : List ℕ) (p c k a b x z v : ℕ) → c < 4 → k ≡ p * 4 + c
    → a ≡ get_or xs (p * 4 + 3) 0 → b ≡ get_or zs (p * 4 + 3) 0 → x ≡ get_or xs k 0 → z ≡ get_or zs k 0
    → v ≡ laid_channel c a (strength b o) x z → v ≡ laid_over o xs zs k
channel_is o xs zs p c k a b x z v lt e ea eb ex ez h =
    let place : k / 4 * 4 + 3 ≡ p * 4 + 3 = omega arith in
    let channel : k % 4 ≡ c = omega arith in
    rw (place, channel, ← ea, ← eb, ← ex, ← ez) h

-- where a pixel is laid over another, these are the four bytes of the picture there
pub pixel_is : (o : ℕ) (xs zs : List ℕ) (p : ℕ) (low top laid : Pixel)
    → low.r ≡ get_or xs (p * 4) 0 → low.g ≡ get_or xs (p * 4 + 1) 0 → low.b ≡ get_or xs (p * 4 + 2) 0 → low.a ≡ get_or xs (p * 4 + 3) 0
    → top.r ≡ get_or zs (p * 4) 0 → top.g ≡ get_or zs (p * 4 + 1) 0 → top.b ≡ get_or zs (p * 4 + 2) 0 → top.a ≡ get_or zs (p * 4 + 3) 0
    → laid.r ≡ laid_channel 0 low.a (strength top.a o) low.r top.r
    → laid.g ≡ laid_channel 1 low.a (strength top.a o) low.g top.g
    → laid.b ≡ laid_channel 2 low.a (strength top.a o) low.b top.b
    → laid.a ≡ laid_channel 3 low.a (strength top.a o) low.a top.a
    → (laid.r ≡ laid_over o xs zs (p * 4)) × (laid.g ≡ laid_over o xs zs (p * 4 + 1)) × (laid.b ≡ laid_over o xs zs (p * 4 + 2)) × (laid.a ≡ laid_over o xs zs (p * 4 + 3))
pixel_is o xs zs p low top laid lr lg lb la tr tg tb ta r g b a = (
  channel_is o xs zs p 0 (p * 4) low.a top.a low.r top.r laid.r (omega arith) (omega arith) la ta lr tr r,
  channel_is o xs zs p 1 (p * 4 + 1) low.a top.a low.g top.g laid.g (omega arith) (omega arith) la ta lg tg g,
  channel_is o xs zs p 2 (p * 4 + 2) low.a top.a low.b top.b laid.b (omega arith) (omega arith) la ta lb tb b,
  channel_is o xs zs p 3 (p * 4 + 3) low.a top.a low.a top.a laid.a (omega arith) (omega arith) la ta la ta a,
)
