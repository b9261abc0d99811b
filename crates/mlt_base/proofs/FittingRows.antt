-- Pictures brought to another size, tried on small ones: each line is checked by computing both of its sides.
use Rattle.std.specs.Prelude.{◌≡◌, [], ◌∷◌, refl}
use Rattle.mlt_base.specs.Mixing.{table}
use Rattle.mlt_base.specs.Fitting.{spot_at, framed, fitted, stretched}

-- one pixel fitted to 2 by 1: it stands on the left, and the other is transparent black
one_to_two : table 8 (fitted (record { width = 1; height = 1; pixels = 10 ∷ 20 ∷ 30 ∷ 255 ∷ [] }) 2 1) ≡ 10 ∷ 20 ∷ 30 ∷ 255 ∷ 0 ∷ 0 ∷ 0 ∷ 0 ∷ []
unfolding framed spot_at
one_to_two = refl

-- two pixels stretched to four: the outer ones stay, and between them a quarter and three quarters are mixed
two_to_four : table 16 (stretched (record { width = 2; height = 1; pixels = 0 ∷ 200 ∷ 30 ∷ 255 ∷ 100 ∷ 0 ∷ 30 ∷ 255 ∷ [] }) 4 1)
    ≡ 0 ∷ 200 ∷ 30 ∷ 255 ∷ 25 ∷ 150 ∷ 30 ∷ 255 ∷ 75 ∷ 50 ∷ 30 ∷ 255 ∷ 100 ∷ 0 ∷ 30 ∷ 255 ∷ []
unfolding spot_at
two_to_four = refl

-- a column of two pixels fitted to 3 by 1: they become one in the middle, half of each
column_in_row : table 12 (fitted (record { width = 1; height = 2; pixels = 10 ∷ 20 ∷ 30 ∷ 255 ∷ 11 ∷ 40 ∷ 0 ∷ 255 ∷ [] }) 3 1)
    ≡ 0 ∷ 0 ∷ 0 ∷ 0 ∷ 11 ∷ 30 ∷ 15 ∷ 255 ∷ 0 ∷ 0 ∷ 0 ∷ 0 ∷ []
unfolding framed spot_at
column_in_row = refl
