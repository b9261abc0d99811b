-- Bytes of pixels that are written a few at a time, and the samples that they come from.
use Rattle.std.proofs.Common.{◌≡◌, ℕ, zero, suc, ◌+◌, ◌-◌, ◌*◌, ◌/◌, ◌%◌, ◌<◌, ◌≤◌, false, eqb, inl, inr, List, [], ◌∷◌, ◌++◌, length, get_or, map, refl, sym, ap, ◌∙◌, arith, length-append}
use Rattle.std.specs.List.{range_with_len}
use Rattle.std.specs.Simd.Lanes.{put_chunk}
use Rattle.std.proofs.lemmas.Bool.{cases_lt, ne_eqb, lt-ltb, le-ltb}
use Rattle.std.proofs.lemmas.Simd.{get_or-put_chunk_below, get_or-put_chunk_at}
use Rattle.std.proofs.lemmas.List.{get_or_append_left, get_or-append_right}
use Rattle.std.proofs.lemmas.List.FromFn.{get_or-map-range_with_len}
use Rattle.mlt_base.specs.Ppm.{eight_bits, sample, pixel_byte}

-- values that stand behind those that are right, and are right too
pub chunk_more : (F : ℕ → ℕ) (xs vs : List ℕ) (low at : ℕ) → at + length vs ≤ length xs → ((k : ℕ) → low ≤ k → k < at → get_or xs k 0 ≡ F k) → ((j : ℕ) → j < length vs → get_or vs j 0 ≡ F (at + j)) → (k : ℕ) → low ≤ k → k < at + length vs → get_or (put_chunk at xs vs) k 0 ≡ F k
chunk_more F xs vs low at room done here k above below =
    elim (cases_lt k at) [
      | inl lt ↦ get_or-put_chunk_below at xs vs k 0 lt ∙ done k above lt
      | inr le ↦
          let j : ℕ = k - at in
          let e : at + j ≡ k = omega arith in
          ap (λ (i : ℕ). get_or (put_chunk at xs vs) i 0) (sym e) ∙ (get_or-put_chunk_at at xs vs j 0 (omega arith) room ∙ (here j (omega arith) ∙ ap F e))
    ]

-- what stands before stays
pub chunk_before : (xs vs : List ℕ) (low at : ℕ) → low ≤ at → (k : ℕ) → k < low → get_or (put_chunk at xs vs) k 0 ≡ get_or xs k 0
chunk_before xs vs low at h k below = get_or-put_chunk_below at xs vs k 0 (omega arith)

-- ---- the bytes of a pixel

pub pixel_colour : (maxval : ℕ) (raster : List ℕ) (k q c : ℕ) → k ≡ q * 4 + c → c < 3 → pixel_byte maxval raster k ≡ eight_bits maxval (sample maxval raster (q * 3 + c))
pixel_colour maxval raster k q c e small =
    let d : k / 4 ≡ q = omega arith in
    let m : k % 4 ≡ c = omega arith in
    let other : eqb c 3 ≡ false = ne_eqb c 3 (λ h. omega arith) in
    rw (d, m, other) refl

pub pixel_alpha : (maxval : ℕ) (raster : List ℕ) (k q : ℕ) → k ≡ q * 4 + 3 → pixel_byte maxval raster k ≡ 255
pixel_alpha maxval raster k q e = let m : k % 4 ≡ 3 = omega arith in rw m refl

-- three samples and an alpha are a pixel
pub opaque_is : (maxval : ℕ) (raster : List ℕ) (from p r g b : ℕ) → r ≡ eight_bits maxval (sample maxval raster ((from + p) * 3)) → g ≡ eight_bits maxval (sample maxval raster ((from + p) * 3 + 1)) → b ≡ eight_bits maxval (sample maxval raster ((from + p) * 3 + 2)) → (j : ℕ) → j < 4 → get_or (r ∷ g ∷ b ∷ 255 ∷ []) j 0 ≡ pixel_byte maxval raster (from * 4 + (p * 4 + j))
opaque_is maxval raster from p r g b er eg eb zero h = er ∙ (ap (λ (i : ℕ). eight_bits maxval (sample maxval raster i)) (omega arith) ∙ sym (pixel_colour maxval raster _ (from + p) 0 (omega arith) (omega arith)))
opaque_is maxval raster from p r g b er eg eb (suc zero) h = eg ∙ sym (pixel_colour maxval raster _ (from + p) 1 (omega arith) (omega arith))
opaque_is maxval raster from p r g b er eg eb (suc (suc zero)) h = eb ∙ sym (pixel_colour maxval raster _ (from + p) 2 (omega arith) (omega arith))
opaque_is maxval raster from p r g b er eg eb (suc (suc (suc zero))) h = sym (pixel_alpha maxval raster _ (from + p) (omega arith))
opaque_is maxval raster from p r g b er eg eb (suc (suc (suc (suc j)))) h = absurd (omega arith)

-- ---- samples

pub narrow_is : (maxval : ℕ) (raster : List ℕ) (i : ℕ) → maxval < 256 → sample maxval raster i ≡ get_or raster i 0
narrow_is maxval raster i h = rw (lt-ltb maxval 256 h) refl

pub wide_is : (maxval : ℕ) (raster : List ℕ) (i : ℕ) → 256 ≤ maxval → sample maxval raster i ≡ get_or raster (i * 2) 0 * 256 + get_or raster (i * 2 + 1) 0
wide_is maxval raster i h = rw (le-ltb maxval 256 h) refl

-- the byte of a sample, looked up
pub looked_up : (maxval v : ℕ) (values : List ℕ) → values ≡ map (eight_bits maxval) (range_with_len 0 256) → v < 256 → get_or values v 0 ≡ eight_bits maxval v
looked_up maxval v values e h = ap (λ (xs : List ℕ). get_or xs v 0) e ∙ get_or-map-range_with_len (eight_bits maxval) 0 256 v v 0 h (omega arith)

-- ---- bytes behind those that are there

pub record AreBytes (F : ℕ → ℕ) (n : ℕ) (xs : List ℕ) : Type 0 where
  pub long : length xs ≡ n
  pub each : (k : ℕ) → k < n → get_or xs k 0 ≡ F k

pub AreBytes-append : (F : ℕ → ℕ) (n m : ℕ) (xs ys zs : List ℕ) → AreBytes F n xs → zs ≡ xs ++ ys → length ys ≡ m → ((j : ℕ) → j < m → get_or ys j 0 ≡ F (n + j)) → AreBytes F (n + m) zs
AreBytes-append F n m xs ys zs h e long here = record {
  long = ap length e ∙ (length-append xs ys ∙ omega (arith, h.long, long));
  each = λ k below. ap (λ (l : List ℕ). get_or l k 0) e ∙ elim (cases_lt k n) [
    | inl lt ↦ get_or_append_left xs ys 0 k (omega (arith, h.long)) ∙ h.each k lt
    | inr le ↦
        let j : ℕ = k - n in
        let at : n + j ≡ k = omega arith in
        get_or-append_right xs ys n k 0 h.long le ∙ (here j (omega arith) ∙ ap F at)
  ];
}
