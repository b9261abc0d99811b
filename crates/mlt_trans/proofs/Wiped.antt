-- Rows that are mixed by the lightness of a map.
use Rattle.std.proofs.Common.{◌≡◌, ℕ, ◌+◌, ◌-◌, ◌*◌, ◌/◌, ◌<◌, ◌≤◌, List, get_or, refl, sym, ap, ◌∙◌, arith}
use Rattle.mlt_base.specs.Mixing.{blended}
use Rattle.mlt_kernel.proofs.Mixed.{mixed_whole, mixed_none}
use Rattle.mlt_slice.specs.Rows.{row_of}
use Rattle.mlt_slice.proofs.Bytes.{row_byte}
use Rattle.mlt_tree.specs.Filters.{lightness_at}
use Rattle.mlt_tree.specs.Merges.{edge, reached_at, turned, share_at}
use Rattle.mlt_trans.proofs.Rowwise.{luma_row}

-- a byte is mixed by the share of its own pixel
pub wiped_row : (softness q width k i : ℕ) (map xs zs : List ℕ) → i < width * 4
    → blended (share_at softness q (row_of (width * 4) k map) i) (get_or (row_of (width * 4) k xs) i 0) (get_or (row_of (width * 4) k zs) i 0)
    ≡ blended (share_at softness q map (k * (width * 4) + i)) (get_or xs (k * (width * 4) + i) 0) (get_or zs (k * (width * 4) + i) 0)
wiped_row softness q width k i map xs zs lt =
    let light = luma_row width k i map lt in
    let x = row_byte (width * 4) k i xs lt in
    let z = row_byte (width * 4) k i zs lt in
    rw (light, x, z) refl

-- ---- a block

-- shares that were found for so many pixels from one on
module _ (softness q : ℕ) (map found : List ℕ) (from count k : ℕ) (each : (j : ℕ) → j < count → get_or found j 0 ≡ share_at softness q map ((from + j) * 4)) (low : from * 4 ≤ k) (high : k < (from + count) * 4) where
  -- the share of a byte's pixel is the one that was found for it
  pub found_at : share_at softness q map k ≡ get_or found (k / 4 - from) 0
  found_at =
      let j : ℕ = k / 4 - from in
      let pixel : (from + j) * 4 / 4 ≡ k / 4 = omega arith in
      let light : lightness_at map ((from + j) * 4) ≡ lightness_at map k = rw pixel refl in
      sym (each j (omega arith) ∙ ap (λ v. turned softness (edge softness q) (reached_at v)) light)

  module _ (x z : ℕ) where
    -- where all of a block has turned, its bytes are the other's
    pub all_turned : (least : ℕ) → ((j : ℕ) → j < count → get_or found j 0 ≤ 65536) → ((j : ℕ) → j < count → least ≤ get_or found j 0) → least ≡ 65536 → z ≡ blended (share_at softness q map k) x z
    all_turned least most above whole =
        mixed_whole (share_at softness q map k) x z (omega (arith, found_at, most (k / 4 - from) (omega arith), above (k / 4 - from) (omega arith)))

    -- where nothing of it has, they stay
    pub none_turned : (greatest : ℕ) → ((j : ℕ) → j < count → get_or found j 0 ≤ greatest) → greatest ≤ 0 → x ≡ blended (share_at softness q map k) x z
    none_turned greatest below none = mixed_none (share_at softness q map k) x z (omega (arith, found_at, below (k / 4 - from) (omega arith)))

-- byte k is of a pixel whose share was found, and its channel is mixed by it
pub turned_byte : (found row other : List ℕ) (from j c k x z v : ℕ) → c < 4 → k ≡ (from + j) * 4 + c → x ≡ get_or row k 0 → z ≡ get_or other k 0 → v ≡ blended (get_or found j 0) x z
    → v ≡ blended (get_or found (k / 4 - from) 0) (get_or row k 0) (get_or other k 0)
turned_byte found row other from j c k x z v lt e ex ez h =
    let pixel : k / 4 - from ≡ j = omega arith in
    rw (pixel, ← ex, ← ez) h
