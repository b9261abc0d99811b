-- The values of a row of a source that is mixed across.
use Rattle.std.proofs.Common.{◌≡◌, ℕ, ◌+◌, ◌*◌, ◌/◌, ◌%◌, ◌<◌, List, get_or, arith}
use Rattle.mlt_base.specs.Fitting.{across}
use Rattle.mlt_image.specs.Kept.{across_at}

-- value k is channel c at place u
pub across_is : (pixels : List ℕ) (width : ℕ) (places : List ℕ) (y u c k v : ℕ) → c < 4 → k ≡ u * 4 + c
    → v ≡ across pixels width (get_or places u 0) y c → v ≡ across_at pixels width places y k
across_is pixels width places y u c k v lt e h =
    let at : k / 4 ≡ u = omega arith in
    let channel : k % 4 ≡ c = omega arith in
    rw (at, channel) h
