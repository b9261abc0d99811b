-- The formulas of bytes, tried on pixels: each line is checked by computing both of its sides.
use Rattle.std.specs.Prelude.{◌≡◌, [], ◌∷◌, refl}
use Rattle.mlt_base.specs.Mixing.{table, dissolved, scaled, laid_over, lightness}

-- red half dissolved into blue
half_dissolved : table 4 (dissolved 32768 (255 ∷ 0 ∷ 0 ∷ 255 ∷ []) (0 ∷ 0 ∷ 255 ∷ 255 ∷ [])) ≡ 128 ∷ 0 ∷ 128 ∷ 255 ∷ []
half_dissolved = refl

-- blue of alpha 128 over red
half_over : table 4 (laid_over 100 (255 ∷ 0 ∷ 0 ∷ 255 ∷ []) (0 ∷ 0 ∷ 255 ∷ 128 ∷ [])) ≡ 127 ∷ 0 ∷ 128 ∷ 255 ∷ []
half_over = refl

-- nothing over nothing is transparent black, whatever colours were hidden there
nothing_over : table 4 (laid_over 0 (9 ∷ 8 ∷ 7 ∷ 0 ∷ []) (0 ∷ 0 ∷ 255 ∷ 128 ∷ [])) ≡ 0 ∷ 0 ∷ 0 ∷ 0 ∷ []
nothing_over = refl

-- grey at half its level
half_lit : table 4 (scaled 32768 (200 ∷ 200 ∷ 200 ∷ 255 ∷ [])) ≡ 100 ∷ 100 ∷ 100 ∷ 255 ∷ []
half_lit = refl

-- white is as bright as can be
white_luma : lightness 255 255 255 ≡ 255
white_luma = refl
