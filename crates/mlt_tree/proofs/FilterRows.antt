-- What filters make of small pictures: each line is checked by computing both of its sides.
use Rattle.std.specs.Prelude.{ℕ, ◌≡◌, refl, true, false, List, [], ◌∷◌}
use Rattle.mlt_tree.specs.declared.filter.FilterStep.{FilterStep}
use Rattle.mlt_tree.specs.declared.filter.FilterStep.TheVariants.{Brightness, Greyscale, Invert, Mirror, Crop, Threshold, Sepia, Obscure, Opacity, SwapChannels, Volume}
use Rattle.mlt_tree.specs.Filters.{picture_filter}

-- one pixel after another
abbrev picture : List (ℕ × ℕ × ℕ × ℕ) → List ℕ
picture [] = []
picture (p ∷ ps) = p.0 ∷ p.1 ∷ p.2 ∷ p.3 ∷ picture ps

-- on one pixel
abbrev one : FilterStep → ℕ × ℕ × ℕ × ℕ → List ℕ
one step p = picture_filter step 1 (picture (p ∷ []))

red_inverted : one Invert (255, 0, 0, 7) ≡ picture ((0, 255, 255, 7) ∷ [])
red_inverted = refl

-- the lightness of cyan is 178
cyan_grey : one Greyscale (0, 255, 255, 255) ≡ picture ((178, 178, 178, 255) ∷ [])
cyan_grey = refl

cyan_below : one (Threshold 200) (0, 255, 255, 255) ≡ picture ((0, 0, 0, 255) ∷ [])
cyan_below = refl

cyan_at : one (Threshold 178) (0, 255, 255, 9) ≡ picture ((255, 255, 255, 9) ∷ [])
cyan_at = refl

red_sepia : one Sepia (255, 0, 0, 255) ≡ picture ((116, 96, 76, 255) ∷ [])
red_sepia = refl

white_sepia : one Sepia (255, 255, 255, 1) ≡ picture ((255, 255, 255, 1) ∷ [])
white_sepia = refl

half : one (Brightness (record { 0 = 32768 })) (200, 255, 1, 200) ≡ picture ((100, 128, 1, 200) ∷ [])
half = refl

over_full : one (Brightness (record { 0 = 4294967295 })) (1, 0, 255, 3) ≡ picture ((255, 0, 255, 3) ∷ [])
over_full = refl

half_seen : one (Opacity (record { 0 = 32768 })) (200, 255, 1, 255) ≡ picture ((200, 255, 1, 128) ∷ [])
half_seen = refl

swapped : one (SwapChannels (2 ∷ 1 ∷ 0 ∷ 3 ∷ [])) (1, 2, 3, 4) ≡ picture ((3, 2, 1, 4) ∷ [])
swapped = refl

-- a letter may stand twice
twice : one (SwapChannels (3 ∷ 3 ∷ 0 ∷ 0 ∷ [])) (1, 2, 3, 4) ≡ picture ((4, 4, 1, 1) ∷ [])
twice = refl

sound_left : one (Volume (record { 0 = 0 })) (1, 2, 3, 4) ≡ picture ((1, 2, 3, 4) ∷ [])
sound_left = refl

-- ---- places: two columns and three rows

abbrev grey : ℕ → ℕ × ℕ × ℕ × ℕ
grey n = (n, n, n, n)

abbrev six : List (ℕ × ℕ × ℕ × ℕ)
six = grey 1 ∷ grey 2 ∷ grey 3 ∷ grey 4 ∷ grey 5 ∷ grey 6 ∷ []

abbrev on_six : FilterStep → List (ℕ × ℕ × ℕ × ℕ) → Type 0
on_six step made = picture_filter step 2 (picture six) ≡ picture made

turned : on_six (Mirror false) (grey 2 ∷ grey 1 ∷ grey 4 ∷ grey 3 ∷ grey 6 ∷ grey 5 ∷ [])
turned = refl

upside_down : on_six (Mirror true) (grey 5 ∷ grey 6 ∷ grey 3 ∷ grey 4 ∷ grey 1 ∷ grey 2 ∷ [])
upside_down = refl

left_and_top : on_six (Crop 1 0 1 0) (grey 0 ∷ grey 0 ∷ grey 0 ∷ grey 4 ∷ grey 0 ∷ grey 6 ∷ [])
left_and_top = refl

right_and_bottom : on_six (Crop 0 1 0 1) (grey 1 ∷ grey 0 ∷ grey 3 ∷ grey 0 ∷ grey 0 ∷ grey 0 ∷ [])
right_and_bottom = refl

-- more than all rows
all_rows : on_six (Crop 0 0 0 4096) (grey 0 ∷ grey 0 ∷ grey 0 ∷ grey 0 ∷ grey 0 ∷ grey 0 ∷ [])
all_rows = refl

squares : on_six (Obscure 2) (grey 1 ∷ grey 1 ∷ grey 1 ∷ grey 1 ∷ grey 5 ∷ grey 5 ∷ [])
squares = refl
