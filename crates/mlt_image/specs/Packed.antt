-- A picture laid over black, byte by byte: three of the four bytes of a pixel.
use Rattle.std.specs.Prelude.{ℕ, ◌+◌, ◌*◌, ◌/◌, ◌%◌, List, slice_index}
use Rattle.mlt_base.specs.Picture.{on_black}

-- byte k, which is of pixel k / 3 and colour k % 3
abbrev pub packed : List ℕ → ℕ → ℕ
packed xs k = on_black (slice_index xs (k / 3 * 4 + k % 3)) (slice_index xs (k / 3 * 4 + 3))
