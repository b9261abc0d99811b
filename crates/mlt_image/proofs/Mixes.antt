-- Values between two, and between four.
use Rattle.std.proofs.Common.{◌≡◌, ℕ, ◌+◌, ◌-◌, ◌*◌, ◌/◌, ◌%◌, ◌<◌, ◌≤◌, List, [], ◌∷◌, get_or, refl, arith}
use Rattle.std.proofs.Math.Nat.{mul-le-mul_left}
use Rattle.mlt_base.specs.Still.{Picture}
use Rattle.mlt_base.specs.Fitting.{next, weighed, across, down, spot_at}
use Rattle.mlt_image.specs.Kept.{channels}

-- of bytes the value is at most 255 in 65536ths
pub weighed_most : (share x z : ℕ) → share ≤ 65536 → x ≤ 255 → z ≤ 255 → weighed share x z ≤ 16711680
weighed_most share x z few first second =
    let rest : ℕ = 65536 - share in
    let a : rest * x ≤ rest * 255 = mul-le-mul_left rest first in
    let b : share * z ≤ share * 255 = mul-le-mul_left share second in
    omega arith

-- where nothing of the row below is taken, it may be any
pub down_none : (share top bottom other : ℕ) → share ≡ 0 → down share top bottom ≡ down share top other
down_none share top bottom other e = rw e (omega arith)

-- a row of a picture lies within it
pub row_within : (y width height : ℕ) → y < height → (y * width + width) * 4 ≤ width * height * 4
row_within y width height lt =
    let more : width * (y + 1) ≤ width * height = mul-le-mul_left width (omega arith) in
    omega arith

-- the four bytes of a pixel, of which the values of both rows are known
pub pixel_is : (source : Picture) (x y below a b c d : ℕ) (top bottom : List ℕ)
    → top ≡ channels (across source.pixels source.width x (y / 65536)) → bottom ≡ channels (across source.pixels source.width x below) → below ≡ next source.height y
    → a ≡ down (y % 65536) (get_or top 0 0) (get_or bottom 0 0) → b ≡ down (y % 65536) (get_or top 1 0) (get_or bottom 1 0)
    → c ≡ down (y % 65536) (get_or top 2 0) (get_or bottom 2 0) → d ≡ down (y % 65536) (get_or top 3 0) (get_or bottom 3 0)
    → a ∷ b ∷ c ∷ d ∷ [] ≡ channels (spot_at source x y)
unfolding spot_at
pixel_is source x y below a b c d top bottom et eb en ea eb' ec ed = rw (ea, eb', ec, ed, et, eb, en) refl
