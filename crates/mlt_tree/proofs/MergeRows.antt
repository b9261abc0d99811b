-- What merges make of small pictures: each line is checked by computing both of its sides.
use Rattle.std.specs.Prelude.{ℕ, ℤ, pos, negsuc, ◌≡◌, refl, List, [], ◌∷◌, Option, None, Some}
use Rattle.mlt_base.specs.Fitting.{spot_at}
use Rattle.mlt_tree.specs.declared.merge.MergeStep.{MergeStep}
use Rattle.mlt_tree.specs.declared.merge.MergeStep.TheVariants.{Luma, Composite, Matte, Mix, Sum}
use Rattle.mlt_tree.specs.Merges.{edge, reached_at, turned, picture_merge}

-- one pixel after another
abbrev picture : List (ℕ × ℕ × ℕ × ℕ) → List ℕ
picture [] = []
picture (p ∷ ps) = p.0 ∷ p.1 ∷ p.2 ∷ p.3 ∷ picture ps

abbrev one : ℕ × ℕ × ℕ × ℕ → List ℕ
one p = picture (p ∷ [])

abbrev red : ℕ × ℕ × ℕ × ℕ
red = (255, 0, 0, 255)

abbrev blue : ℕ × ℕ × ℕ × ℕ
blue = (0, 0, 255, 255)

-- ---- luma

abbrev by_half : Option (List ℕ) → MergeStep → List ℕ
by_half map step = picture_merge step map 1 (one red) (one blue)

abbrev half : MergeStep
half = Luma None (record { 0 = 0 }) (record { 0 = 32768 })

dissolved : by_half None half ≡ one (128, 0, 128, 255)
dissolved = refl

-- half way, a hard edge has left the pixels behind that are lighter than half
lighter : turned 0 (edge 0 32768) (reached_at 128) ≡ 0
lighter = refl

darker : turned 0 (edge 0 32768) (reached_at 127) ≡ 65536
darker = refl

-- a soft edge of the whole way has come as far as all of it, and half of what is black has turned
black_half : turned 65536 (edge 65536 16384) (reached_at 0) ≡ 32768
black_half = refl

-- at the end all has turned, however soft the edge is
white_end : turned 65536 (edge 65536 65536) (reached_at 255) ≡ 65536
white_end = refl

-- at the beginning nothing has
black_begin : turned 0 (edge 0 0) (reached_at 0) ≡ 0
black_begin = refl

-- a map whose left pixel is dark and whose right one is light
wiped : picture_merge half (Some (picture ((127, 127, 127, 255) ∷ (128, 128, 128, 255) ∷ []))) 2 (picture (red ∷ red ∷ [])) (picture (blue ∷ blue ∷ [])) ≡ picture (blue ∷ red ∷ [])
wiped = refl

-- ---- composite

abbrev at : (x y : ℤ) (width height opacity : ℕ) → MergeStep
at x y width height opacity =
    Composite (record { x = x; y = y; width = width; height = height; opacity = opacity })

half_seen : picture_merge (at (pos 0) (pos 0) 1 1 100) None 1 (one red) (one (0, 0, 255, 128)) ≡ one (127, 0, 128, 255)
unfolding spot_at
half_seen = refl

at_half : picture_merge (at (pos 0) (pos 0) 1 1 50) None 1 (one (0, 0, 0, 0)) (one blue) ≡ one (0, 0, 255, 128)
unfolding spot_at
at_half = refl

-- where neither is seen
unseen : picture_merge (at (pos 0) (pos 0) 1 1 0) None 1 (one (7, 8, 9, 0)) (one blue) ≡ one (0, 0, 0, 0)
unfolding spot_at
unseen = refl

abbrev grey : ℕ → ℕ × ℕ × ℕ × ℕ
grey n = (n, n, n, 255)

abbrev below : List ℕ
below = picture (grey 1 ∷ grey 2 ∷ grey 3 ∷ grey 4 ∷ [])

abbrev above : List ℕ
above = picture (grey 50 ∷ grey 60 ∷ grey 70 ∷ grey 80 ∷ [])

-- two columns and two rows; shifted right and down by one, the left upper pixel is seen at the right below
shifted : picture_merge (at (pos 1) (pos 1) 2 2 100) None 2 below above ≡ picture (grey 1 ∷ grey 2 ∷ grey 3 ∷ grey 50 ∷ [])
unfolding spot_at
shifted = refl

-- shifted left and up by one, the right lower one at the left above
shifted_back : picture_merge (at (negsuc 0) (negsuc 0) 2 2 100) None 2 below above ≡ picture (grey 80 ∷ grey 2 ∷ grey 3 ∷ grey 4 ∷ [])
unfolding spot_at
shifted_back = refl

-- all of it in one pixel
shrunk : picture_merge (at (pos 0) (pos 1) 1 1 100) None 2 below above ≡ picture (grey 1 ∷ grey 2 ∷ grey 65 ∷ grey 4 ∷ [])
unfolding spot_at
shrunk = refl

outside : picture_merge (at (pos 2) (pos 0) 2 2 100) None 2 below above ≡ below
unfolding spot_at
outside = refl

-- ---- matte, and merges of sound

white_matte : picture_merge Matte None 1 (one (255, 0, 0, 7)) (one (255, 255, 255, 3)) ≡ one red
white_matte = refl

red_matte : picture_merge Matte None 1 (one blue) (one red) ≡ one (0, 0, 255, 76)
red_matte = refl

sound_left : (picture_merge (Mix 0 1) None 1 (one red) (one blue) ∷ picture_merge Sum None 1 (one red) (one blue) ∷ []) ≡ (one red ∷ one red ∷ [])
sound_left = refl
