-- Pictures whose pixels are made one by one.
use Rattle.std.proofs.Common.{◌≡◌, ℕ, ◌+◌, ◌*◌, ◌/◌, ◌%◌, ◌<◌, List, get_or, sym, ap, ◌∙◌, refl, arith}
use Rattle.mlt_kernel.specs.declared.pixel.Pixel.{Pixel}
use Rattle.mlt_slice.specs.Rows.{row_of}
use Rattle.mlt_slice.proofs.Bytes.{row_byte}
use Rattle.mlt_vfilter.specs.Pixels.{IsMade, pixel_of, pixelwise}

abbrev with_channels : ℕ → ℕ → ℕ → ℕ → Pixel
with_channels r g b a = record { r = r; g = g; b = b; a = a }

-- a pixel by its channels
pub pixel_is : (pixel other : Pixel) → pixel.r ≡ other.r → pixel.g ≡ other.g → pixel.b ≡ other.b → pixel.a ≡ other.a → pixel ≡ other
pixel_is pixel other er eg eb ea =
    ap (λ r. with_channels r pixel.g pixel.b pixel.a) er
    ∙ ap (λ g. with_channels other.r g pixel.b pixel.a) eg
    ∙ ap (λ b. with_channels other.r other.g b pixel.a) eb
    ∙ ap (λ a. with_channels other.r other.g other.b a) ea

-- channel c of pixel p is byte p * 4 + c
pixelwise_at : (f : ℕ → ℕ → Pixel → ℕ) (xs : List ℕ) (p c k : ℕ) → k ≡ p * 4 + c → c < 4 → pixelwise f xs k ≡ f c (get_or xs k 0) (pixel_of xs p)
pixelwise_at f xs p c k e lt =
    let q : k / 4 ≡ p = omega arith in
    let m : k % 4 ≡ c = omega arith in
    rw (q, m) refl

-- the four bytes of a pixel that is made
pub made_pixel : (f : ℕ → ℕ → Pixel → ℕ) (xs : List ℕ) (p : ℕ) (old new : Pixel) → IsMade f old new → old ≡ pixel_of xs p
    → (new.r ≡ pixelwise f xs (p * 4)) × (new.g ≡ pixelwise f xs (p * 4 + 1)) × (new.b ≡ pixelwise f xs (p * 4 + 2)) × (new.a ≡ pixelwise f xs (p * 4 + 3))
made_pixel f xs p old new made is = (
  made.0 ∙ ap (λ (q : Pixel). f 0 q.r q) is ∙ sym (pixelwise_at f xs p 0 (p * 4) (omega arith) (omega arith)),
  made.1 ∙ ap (λ (q : Pixel). f 1 q.g q) is ∙ sym (pixelwise_at f xs p 1 (p * 4 + 1) refl (omega arith)),
  made.2 ∙ ap (λ (q : Pixel). f 2 q.b q) is ∙ sym (pixelwise_at f xs p 2 (p * 4 + 2) refl (omega arith)),
  made.3 ∙ ap (λ (q : Pixel). f 3 q.a q) is ∙ sym (pixelwise_at f xs p 3 (p * 4 + 3) refl (omega arith)),
)

-- a pixel is of its row alone, and so is a byte of it
module _ (width k i : ℕ) (xs : List ℕ) (lt : i < width * 4) where
  byte : (j m : ℕ) → j < i / 4 * 4 + 4 → m ≡ k * (width * 4) + j → get_or (row_of (width * 4) k xs) j 0 ≡ get_or xs m 0
  byte j m small e = row_byte (width * 4) k j xs (omega arith) ∙ ap (λ n. get_or xs n 0) (sym e)

  pixel_of_row : pixel_of (row_of (width * 4) k xs) (i / 4) ≡ pixel_of xs ((k * (width * 4) + i) / 4)
  pixel_of_row =
      let p : ℕ = i / 4 * 4 in let q : ℕ = (k * (width * 4) + i) / 4 * 4 in
      pixel_is (pixel_of (row_of (width * 4) k xs) (i / 4)) (pixel_of xs ((k * (width * 4) + i) / 4))
      (byte p q (omega arith) (omega arith)) (byte (p + 1) (q + 1) (omega arith) (omega arith)) (byte (p + 2) (q + 2) (omega arith) (omega arith)) (byte (p + 3) (q + 3) (omega arith) (omega arith))

  pub pixelwise_row : (f : ℕ → ℕ → Pixel → ℕ) → pixelwise f (row_of (width * 4) k xs) i ≡ pixelwise f xs (k * (width * 4) + i)
  pixelwise_row f =
      let m : i % 4 ≡ (k * (width * 4) + i) % 4 = omega arith in
      let own = row_byte (width * 4) k i xs lt in
      rw (own, m, pixel_of_row) refl
