-- Pictures as lists of bytes: four a pixel, which are red, green, blue and alpha; rows from the top.
use Rattle.std.specs.Prelude.{ℕ, ◌+◌, ◌*◌, ◌/◌, List, [], ◌∷◌, replicate}
use Rattle.std.specs.List.{concat}
use Rattle.mlt_base.specs.Colour.{Pixel}

-- the bytes of a pixel
abbrev pub pixel_bytes : Pixel → List ℕ
pixel_bytes p = p.r ∷ p.g ∷ p.b ∷ p.a ∷ []

-- a picture of so many pixels, each of one colour
abbrev pub plain : ℕ → Pixel → List ℕ
plain pixels p = concat (replicate pixels (pixel_bytes p))

-- a picture of so many pixels that nothing was drawn on: transparent black
abbrev pub clear : ℕ → List ℕ
clear pixels = plain pixels (record { r = 0; g = 0; b = 0; a = 0 })

-- a channel that is laid over black
abbrev pub on_black : ℕ → ℕ → ℕ
on_black channel alpha = (channel * alpha + 127) / 255

-- a picture laid over black, three bytes a pixel
abbrev pub over_black : List ℕ → List ℕ
over_black (r ∷ g ∷ b ∷ a ∷ pixels) = on_black r a ∷ on_black g a ∷ on_black b a ∷ over_black pixels
over_black _ = []
