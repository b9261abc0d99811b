-- Values of the code, as the definitions see them.
use Rattle.mlt_base.specs.Colour.{Pixel}
use Rattle.mlt_image.specs.declared.colour.Colour.{Colour}

-- the pixel of a colour
abbrev pub pixel : Colour → Pixel
pixel c = record { r = c.r; g = c.g; b = c.b; a = c.a }
