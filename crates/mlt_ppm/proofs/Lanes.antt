-- Four pixels at once: sixteen bytes of a raster, spread with an alpha behind each three.
use Rattle.std.proofs.Common.{◌≡◌, ℕ, ◌+◌, ◌*◌, ◌/◌, ◌%◌, ◌<◌, ◌≤◌, Bool, true, false, cond, eqb, List, [], ◌∷◌, ◌++◌, length, get_or, map, refl, sym, ap, subst, ◌∙◌, arith, rules}
use Rattle.std.specs.List.{All, range_with_len}
use Rattle.std.specs.Simd.Lanes.{chunk}
use Rattle.std.proofs.lemmas.Bool.{eqb-true, eqb-false}
use Rattle.std.proofs.lemmas.List.{get_or-map, get_or_append_left, get_or-append-add}
use Rattle.std.proofs.lemmas.List.Elements.{All-get_or}
use Rattle.std.proofs.lemmas.List.FromFn.{get_or-range_with_len}
use Rattle.std.proofs.lemmas.Simd.{get_or-chunk, length-chunk}
use Rattle.mlt_base.specs.Ppm.{eight_bits, sample, pixel_byte}
use Rattle.mlt_ppm.proofs.Pixels.{pixel_colour, pixel_alpha}

-- a byte of 0 to 255 is its own value
pub plain_is : (v : ℕ) → v < 256 → eight_bits 255 v ≡ v
plain_is v h = omega arith

-- where each byte of four pixels comes from; at 16 stands an alpha
abbrev pub places : List ℕ
places = 0 ∷ 1 ∷ 2 ∷ 16 ∷ 3 ∷ 4 ∷ 5 ∷ 16 ∷ 6 ∷ 7 ∷ 8 ∷ 16 ∷ 9 ∷ 10 ∷ 11 ∷ 16 ∷ []

abbrev place : ℕ → ℕ
place j = cond (eqb (j % 4) 3) 16 (j / 4 * 3 + j % 4)

places_are : All (λ j. get_or places j 0 ≡ place j) (range_with_len 0 16)
places_are = search rules

place_is : (j : ℕ) → j < 16 → get_or places j 0 ≡ place j
place_is j h = subst (λ (i : ℕ). get_or places i 0 ≡ place i) (get_or-range_with_len 0 16 j 0 h ∙ omega arith) (All-get_or (λ j. get_or places j 0 ≡ place j) (range_with_len 0 16) j 0 h places_are)

-- sixteen bytes of the raster and sixteen of 255
abbrev pub lanes : List ℕ → ℕ → List ℕ
lanes raster at = chunk at 16 raster ++ 255 ∷ 255 ∷ 255 ∷ 255 ∷ 255 ∷ 255 ∷ 255 ∷ 255 ∷ 255 ∷ 255 ∷ 255 ∷ 255 ∷ 255 ∷ 255 ∷ 255 ∷ 255 ∷ []

lane_is : (raster : List ℕ) (at i : ℕ) → at + 16 ≤ length raster → i < 16 → get_or (lanes raster at) i 0 ≡ get_or raster (at + i) 0
lane_is raster at i room h =
    let long : length (chunk at 16 raster) ≡ 16 = length-chunk at 16 raster room in
    get_or_append_left (chunk at 16 raster) _ 0 i (omega arith) ∙ get_or-chunk at 16 raster i 0 h

alpha_is : (raster : List ℕ) (at : ℕ) → at + 16 ≤ length raster → get_or (lanes raster at) 16 0 ≡ 255
alpha_is raster at room =
    let long : length (chunk at 16 raster) ≡ 16 = length-chunk at 16 raster room in
    ap (λ (i : ℕ). get_or (lanes raster at) i 0) (omega arith) ∙ get_or-append-add (chunk at 16 raster) _ 0 0

pub spread_is : (raster : List ℕ) (from p : ℕ) → ((i : ℕ) → get_or raster i 0 < 256) → (from + p) * 3 + 16 ≤ length raster → (j : ℕ) → j < 16 → get_or (map (λ k. get_or (lanes raster ((from + p) * 3)) k 0) places) j 0 ≡ pixel_byte 255 raster (from * 4 + (p * 4 + j))
spread_is raster from p small room j h = get_or-map (λ k. get_or (lanes raster at) k 0) places j 0 0 h ∙ (ap (λ (k : ℕ). get_or (lanes raster at) k 0) (place_is j h) ∙ go (eqb (j % 4) 3) refl)
  where
    at : ℕ
    at = (from + p) * 3

    go : (t : Bool) → eqb (j % 4) 3 ≡ t → get_or (lanes raster ((from + p) * 3)) (cond t 16 (j / 4 * 3 + j % 4)) 0 ≡ pixel_byte 255 raster (from * 4 + (p * 4 + j))
    go true e =
        let three : j % 4 ≡ 3 = eqb-true (j % 4) 3 e in
        alpha_is raster ((from + p) * 3) room ∙ sym (pixel_alpha 255 raster (from * 4 + (p * 4 + j)) (from + p + j / 4) (omega arith))
    go false e =
        let i : ℕ = j / 4 * 3 + j % 4 in
        let other : j % 4 < 3 = omega (arith, eqb-false (j % 4) 3 e) in
        let same : (from + p) * 3 + i ≡ (from + p + j / 4) * 3 + j % 4 = omega arith in
        let own : get_or raster ((from + p + j / 4) * 3 + j % 4) 0 ≡ eight_bits 255 (sample 255 raster ((from + p + j / 4) * 3 + j % 4)) = sym (plain_is _ (small _)) in
        lane_is raster ((from + p) * 3) i room (omega arith) ∙ (ap (λ (i : ℕ). get_or raster i 0) same ∙ (own ∙ sym (pixel_colour 255 raster (from * 4 + (p * 4 + j)) (from + p + j / 4) (j % 4) (omega arith) other)))
