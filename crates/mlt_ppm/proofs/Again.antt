-- What is written of a picture without transparency is read as that picture.
use Rattle.std.proofs.Common.{◌≡◌, ℕ, ◌+◌, ◌-◌, ◌*◌, ◌/◌, ◌%◌, ◌^◌, ◌<◌, ◌≤◌, inl, Bool, true, false, eqb, List, [], ◌∷◌, ◌++◌, length, get_or, Ok, refl, sym, ap, ◌∙◌, arith, append_assoc, length-append}
use Rattle.std.specs.Prelude.{decimal, codes}
use Rattle.std.proofs.lemmas.Bool.{eqb-true, eqb-false}
use Rattle.std.proofs.lemmas.Fmt.{decimal_by_steps}
use Rattle.std.proofs.lemmas.List.Sums.{fold-append}
use Rattle.std.proofs.lemmas.List.FromFn.{fill_by_all, length-map-range_with_len, get_or-map-range_with_len}
use Rattle.mlt_base.specs.Still.{Picture, IsPicture}
use Rattle.mlt_base.specs.Reading.{AreDigits, IsNumeral, number}
use Rattle.mlt_base.specs.Ppm.{eight_bits, sample, pixel_byte, raster_pixels, IsSeparator, IsField, IsRaster, IsRasterOf, ppm}
use Rattle.mlt_base.proofs.PpmForms.{ppm_accepted}
use Rattle.mlt_ppm.specs.Written.{colour, colours, ppm_text, IsOpaque}
use Rattle.mlt_ppm.proofs.Pixels.{pixel_colour, pixel_alpha, narrow_is}
use Rattle.mlt_ppm.proofs.Lanes.{plain_is}

-- ---- numbers

-- the digits write this number
pub record Writes (n : ℕ) (digits : List ℕ) : Type 0 where
  pub numeral : IsNumeral digits
  pub value : number digits ≡ n

digits_more : (ds : List ℕ) (d : ℕ) → AreDigits ds → d < 10 → AreDigits (ds ++ (48 + d) ∷ [])
digits_more [] d h small = (omega arith, omega arith, tt)
digits_more (b ∷ ds) d h small = (h.0, h.1, digits_more ds d h.2 small)

writes_more : (n : ℕ) (ds : List ℕ) → 10 ≤ n → Writes (n / 10) ds → Writes n (ds ++ (48 + n % 10) ∷ [])
writes_more n ds large h =
    let value : number (ds ++ (48 + n % 10) ∷ []) ≡ number ds * 10 + (48 + n % 10 - 48) = fold-append (λ n digit. n * 10 + (digit - 48)) 0 ds ((48 + n % 10) ∷ []) in
    record {
      numeral = (omega (arith, length-append ds ((48 + n % 10) ∷ [])), digits_more ds (n % 10) h.numeral.1 (omega arith));
      value = value ∙ omega (arith, h.value);
    }

decimal_writes : (n : ℕ) → n < 2 ^ 64 → Writes n (decimal n)
decimal_writes n h = decimal_by_steps Writes (λ n small. record { numeral = (omega arith, (omega arith, omega arith, tt)); value = omega arith }) writes_more n h

-- ---- the raster

colours_length : (pixels : List ℕ) → length (colours pixels) ≡ length pixels / 4 * 3
colours_length pixels = length-map-range_with_len (colour pixels) 0 (length pixels / 4 * 3)

pixels_again : (pixels : List ℕ) (count : ℕ) → length pixels ≡ count * 4 → ((k : ℕ) → get_or pixels k 0 < 256) → IsOpaque pixels → pixels ≡ raster_pixels 255 (colours pixels) count
pixels_again pixels count long small opaque = fill_by_all (pixel_byte 255 (colours pixels)) pixels (count * 4) 0 long each
  where
    each : (k : ℕ) → k < count * 4 → get_or pixels k 0 ≡ pixel_byte 255 (colours pixels) k
    each k h = go (eqb (k % 4) 3) refl
      where
        go : (t : Bool) → eqb (k % 4) 3 ≡ t → get_or pixels k 0 ≡ pixel_byte 255 (colours pixels) k
        go true e =
            let three : k % 4 ≡ 3 = eqb-true (k % 4) 3 e in
            let same : k ≡ k / 4 * 4 + 3 = omega arith in
            ap (λ (i : ℕ). get_or pixels i 0) same ∙ (opaque (k / 4) (omega arith) ∙ sym (pixel_alpha 255 (colours pixels) k (k / 4) same))
        go false e =
            let other : k % 4 < 3 = omega (arith, eqb-false (k % 4) 3 e) in
            let i : ℕ = k / 4 * 3 + k % 4 in
            let d : i / 3 ≡ k / 4 = omega arith in
            let m : i % 3 ≡ k % 4 = omega arith in
            let room : i < length pixels / 4 * 3 = omega arith in
            let read : get_or (colours pixels) i 0 ≡ colour pixels i = get_or-map-range_with_len (colour pixels) 0 (length pixels / 4 * 3) i i 0 room (omega arith) in
            let own : colour pixels i ≡ get_or pixels k 0 = ap (λ (j : ℕ). get_or pixels j 0) (omega arith) in
            let byte : sample 255 (colours pixels) i ≡ get_or pixels k 0 = narrow_is 255 (colours pixels) i (omega arith) ∙ (read ∙ own) in
            sym (pixel_colour 255 (colours pixels) k (k / 4) (k % 4) (omega arith) other ∙ (ap (eight_bits 255) byte ∙ plain_is (get_or pixels k 0) (small k)))

-- ---- the file

raster_again : (p : Picture) → IsPicture p → ((k : ℕ) → get_or p.pixels k 0 < 256) → IsOpaque p.pixels → IsRasterOf p p.width p.height 255 (colours p.pixels)
raster_again p is small opaque = (is.width_from, is.width_to, is.height_from, is.height_to, (omega arith, omega arith), omega (arith, colours_length p.pixels, is.sized), ap (λ (pixels : List ℕ). record { width = p.width; height = p.height; pixels = pixels }) (pixels_again p.pixels (p.width * p.height) is.sized small opaque))

-- one byte of white space between numbers
line_feed : IsSeparator (10 ∷ [])
line_feed = ((10 ∷ []) ∷ [], omega arith, (inl (10, refl, refl), tt), refl)

space : IsSeparator (32 ∷ [])
space = ((32 ∷ []) ∷ [], omega arith, (inl (32, refl, refl), tt), refl)

pub read_back : (p : Picture) → IsPicture p → ((k : ℕ) → get_or p.pixels k 0 < 256) → IsOpaque p.pixels → ppm (ppm_text p) ≡ Ok p
read_back p is small opaque = ppm_accepted (ppm_text p) p (10 ∷ (decimal p.width ++ behind_width), behind_p6, joined)
  where
    raster : List ℕ
    raster = colours p.pixels

    behind_maxval : List ℕ
    behind_maxval = 10 ∷ raster

    behind_height : List ℕ
    behind_height = 10 ∷ 50 ∷ 53 ∷ 53 ∷ 10 ∷ raster

    behind_width : List ℕ
    behind_width = 32 ∷ (decimal p.height ++ behind_height)

    w : Writes p.width (decimal p.width)
    w = decimal_writes p.width (omega (arith, is.width_to))

    h : Writes p.height (decimal p.height)
    h = decimal_writes p.height (omega (arith, is.height_to))

    rows : IsRasterOf p (number (decimal p.width)) (number (decimal p.height)) 255 raster
    rows = rw (w.value, h.value) (raster_again p is small opaque)

    behind_p6 : IsField (λ w. IsField (λ h. IsField (λ m. IsRaster (IsRasterOf p w h m)))) (10 ∷ (decimal p.width ++ behind_width))
    behind_p6 = (10 ∷ [], decimal p.width, behind_width, line_feed, w.numeral, (32 ∷ [], decimal p.height, behind_height, space, h.numeral, (10 ∷ [], 50 ∷ 53 ∷ 53 ∷ [], behind_maxval, line_feed, (omega arith, (omega arith, omega arith, (omega arith, omega arith, (omega arith, omega arith, tt)))), (10, raster, refl, rows, refl), refl), refl), refl)

    joined : ppm_text p ≡ 80 ∷ 54 ∷ 10 ∷ (decimal p.width ++ behind_width)
    joined = ap (λ (l : List ℕ). 80 ∷ 54 ∷ 10 ∷ l) (append_assoc (decimal p.width) (32 ∷ (decimal p.height ++ codes "\n255\n")) raster ∙ ap (λ (l : List ℕ). decimal p.width ++ 32 ∷ l) (append_assoc (decimal p.height) (codes "\n255\n") raster))
