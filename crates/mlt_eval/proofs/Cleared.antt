-- Transparent black, as it is written.
use Rattle.std.proofs.Common.{◌≡◌, ℕ, zero, suc, ◌*◌, List, ◌∷◌, replicate, refl, sym, ap, ◌∙◌, arith}
use Rattle.mlt_base.specs.Picture.{clear, over_black}
use Rattle.mlt_graph.specs.Piece.{pixel_bytes}
use Rattle.mlt_graph.specs.Show.{pix_of}
use Rattle.mlt_graph.specs.declared.show.Pix.{Pix}
use Rattle.mlt_graph.specs.declared.show.Pix.TheVariants.{Rgb, Rgba}
use Rattle.mlt_tree.specs.Show.{packed}

-- all bytes are zero
pub clear_zeros : (pixels : ℕ) → clear pixels ≡ replicate (pixels * 4) 0
clear_zeros zero = refl
clear_zeros (suc n) =
    let more : suc n * 4 ≡ suc (suc (suc (suc (n * 4)))) = omega arith in
    ap (λ (rest : List ℕ). 0 ∷ 0 ∷ 0 ∷ 0 ∷ rest) (clear_zeros n) ∙ ap (λ (k : ℕ). replicate k 0) (sym more)

over_black_zeros : (pixels : ℕ) → over_black (clear pixels) ≡ replicate (pixels * 3) 0
over_black_zeros zero = refl
over_black_zeros (suc n) =
    let more : suc n * 3 ≡ suc (suc (suc (n * 3))) = omega arith in
    ap (λ (rest : List ℕ). 0 ∷ 0 ∷ 0 ∷ rest) (over_black_zeros n) ∙ ap (λ (k : ℕ). replicate k 0) (sym more)

-- laid over black too
pub packed_clear : (pix : Pix) (pixels : ℕ) → packed (pix_of pix) (clear pixels) ≡ replicate (pixels * pixel_bytes pix) 0
packed_clear Rgb pixels = over_black_zeros pixels
packed_clear Rgba pixels = clear_zeros pixels
