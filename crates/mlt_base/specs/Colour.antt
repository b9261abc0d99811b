-- Colours, and the texts that name them.
use Rattle.std.specs.Prelude.{ℕ, ◌+◌, ◌-◌, ◌*◌, ◌&&◌, nat_le, if◌then◌else◌, List, [], ◌∷◌, drop, Option, None, Some, codes, nat_eq}
use Rattle.std.specs.List.{starts_with}
use Rattle.std.specs.Str.{bytes_eq}
use Rattle.mlt_base.specs.Options.{◌>>=◌}

-- a colour with straight alpha, each channel 0 to 255
pub record Pixel : Type 0 where
  pub r : ℕ
  pub g : ℕ
  pub b : ℕ
  pub a : ℕ

-- a colour that hides what lies under it
abbrev pub opaque : ℕ → ℕ → ℕ → Pixel
opaque r g b = record { r = r; g = g; b = b; a = 255 }

-- the value of a hexadecimal digit, in either case
abbrev pub hex : ℕ → Option ℕ
hex c = if nat_le 48 c && nat_le c 57 then Some (c - 48) else (if nat_le 65 c && nat_le c 70 then Some (c - 55) else (if nat_le 97 c && nat_le c 102 then Some (c - 87) else None))

-- the value of two of them
abbrev pub hex_byte : ℕ → ℕ → Option ℕ
hex_byte high low = do
  x ← hex high
  y ← hex low
  Some (x * 16 + y)

-- RRGGBBAA
abbrev pub rgba : List ℕ → Option Pixel
rgba (r ∷ r' ∷ g ∷ g' ∷ b ∷ b' ∷ a ∷ a' ∷ []) = do
  red ← hex_byte r r'
  green ← hex_byte g g'
  blue ← hex_byte b b'
  alpha ← hex_byte a a'
  Some (record { r = red; g = green; b = blue; a = alpha })
rgba _ = None

-- RRGGBB, or AARRGGBB
abbrev pub rgb_or_argb : List ℕ → Option Pixel
rgb_or_argb (r ∷ r' ∷ g ∷ g' ∷ b ∷ b' ∷ []) = do
  red ← hex_byte r r'
  green ← hex_byte g g'
  blue ← hex_byte b b'
  Some (opaque red green blue)
rgb_or_argb (a ∷ a' ∷ r ∷ r' ∷ g ∷ g' ∷ b ∷ b' ∷ []) = do
  alpha ← hex_byte a a'
  red ← hex_byte r r'
  green ← hex_byte g g'
  blue ← hex_byte b b'
  Some (record { r = red; g = green; b = blue; a = alpha })
rgb_or_argb _ = None

-- the colours that have a name
abbrev pub named : List ℕ → Option Pixel
named text =
    if bytes_eq text (codes "black") then Some (opaque 0 0 0) else (if bytes_eq text (codes "white") then Some (opaque 255 255 255) else (if bytes_eq text (codes "red") then Some (opaque 255 0 0) else (if bytes_eq text (codes "green") then Some (opaque 0 255 0) else (if bytes_eq text (codes "blue") then Some (opaque 0 0 255) else None))))

-- the colour that a text names: 0xRRGGBBAA, #RRGGBB, #AARRGGBB or a name
abbrev pub colour_of : List ℕ → Option Pixel
colour_of text =
    if starts_with nat_eq text (codes "0x") then rgba (drop 2 text) else (if starts_with nat_eq text (codes "#") then rgb_or_argb (drop 1 text) else named text)
