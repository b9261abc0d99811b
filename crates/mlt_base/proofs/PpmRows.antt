-- The grammar of PPM, tried on worked files: each line is checked by computing both of its sides.
use Rattle.std.specs.Prelude.{◌≡◌, refl, ℕ, List, [], ◌∷◌, ◌++◌, Result, Ok, Err, codes}
use Rattle.mlt_base.specs.declared.fault.PpmFault.{PpmFault}
use Rattle.mlt_base.specs.declared.fault.PpmFault.TheVariants.{NotP6, BadHeader, TooLarge, Short}
use Rattle.mlt_base.specs.Still.{Picture}
use Rattle.mlt_base.specs.Ppm.{number_at, field_at, white_at, header, picture, ppm}

abbrev still : ℕ → ℕ → List ℕ → Result Picture PpmFault
still width height pixels = Ok (record { width = width; height = height; pixels = pixels })

one_pixel : ppm (codes "P6 1 1 255\n" ++ 10 ∷ 20 ∷ 30 ∷ []) ≡ still 1 1 (10 ∷ 20 ∷ 30 ∷ 255 ∷ [])
unfolding number_at field_at white_at header picture ppm
one_pixel = refl

one_pixel_short : ppm (codes "P6 1 1 255\n" ++ 10 ∷ 20 ∷ []) ≡ Err (Short 2 3)
unfolding number_at field_at white_at header picture ppm
one_pixel_short = refl

two_pixels : ppm (codes "P6\n2 1\n255\n" ++ 0 ∷ 0 ∷ 0 ∷ 255 ∷ 128 ∷ 1 ∷ 9 ∷ []) ≡ still 2 1 (0 ∷ 0 ∷ 0 ∷ 255 ∷ 255 ∷ 128 ∷ 1 ∷ 255 ∷ [])
unfolding number_at field_at white_at header picture ppm
two_pixels = refl

ends_behind_p6 : ppm (codes "P6") ≡ Err (BadHeader 2)
unfolding number_at field_at white_at header picture ppm
ends_behind_p6 = refl

ends_in_comment : ppm (codes "P6#c") ≡ Err (BadHeader 4)
unfolding number_at field_at white_at header picture ppm
ends_in_comment = refl

ends_behind_maxval : ppm (codes "P6 1 1 255") ≡ Err (BadHeader 10)
unfolding number_at field_at white_at header picture ppm
ends_behind_maxval = refl

no_width : ppm (codes "P6 0") ≡ Err (BadHeader 3)
unfolding number_at field_at white_at header picture ppm
no_width = refl

-- a number that isn't allowed stands before the byte at which the header can't go on
zero_first : ppm (codes "P6 0 x") ≡ Err (BadHeader 3)
unfolding number_at field_at white_at header picture ppm
zero_first = refl

-- a large picture is told behind all numbers
zero_behind_large : ppm (codes "P6 4097 0 255 ") ≡ Err (BadHeader 8)
unfolding number_at field_at white_at header picture ppm
zero_behind_large = refl

too_deep : ppm (codes "P6 1 1 65536 ") ≡ Err (BadHeader 7)
unfolding number_at field_at white_at header picture ppm
too_deep = refl

too_wide : ppm (codes "P6 4097 1 255 ") ≡ Err TooLarge
unfolding number_at field_at white_at header picture ppm
too_wide = refl

not_p6 : ppm (codes "P3 1 1 255 ") ≡ Err NotP6
unfolding number_at field_at white_at header picture ppm
not_p6 = refl

-- two bytes a sample, of which 257 times a byte is that byte; and comments, which end at LF or CR
two_bytes : ppm (codes "P6# a\r1#b\n1 65535\n" ++ 1 ∷ 1 ∷ 255 ∷ 255 ∷ 0 ∷ 128 ∷ []) ≡ still 1 1 (1 ∷ 255 ∷ 0 ∷ 255 ∷ [])
unfolding number_at field_at white_at header picture ppm
two_bytes = refl

-- rounded to the nearest, and held to maxval
rounded : ppm (codes "P6 1 1 2\n" ++ 1 ∷ 2 ∷ 3 ∷ []) ≡ still 1 1 (128 ∷ 255 ∷ 255 ∷ 255 ∷ [])
unfolding number_at field_at white_at header picture ppm
rounded = refl

-- any number of digits
long_width : ppm (codes "P6 000000000000000000000000000000001 1 255\n" ++ 10 ∷ 20 ∷ 30 ∷ []) ≡ still 1 1 (10 ∷ 20 ∷ 30 ∷ 255 ∷ [])
unfolding number_at field_at white_at header picture ppm
long_width = refl

large_width : ppm (codes "P6 123456789012345678901234567890 1 255\n" ++ 10 ∷ 20 ∷ 30 ∷ []) ≡ Err TooLarge
unfolding number_at field_at white_at header picture ppm
large_width = refl
