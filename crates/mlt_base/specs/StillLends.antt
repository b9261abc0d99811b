-- What a picture ends as, once a `&mut` into its pixels has ended.
use Rattle.std.specs.Prelude.{ℕ, List, length}
use Rattle.std.specs.Borrow.{Fml, MutBor, Array, Lends, u8}
use Rattle.std.specs.List.{refill}
use Rattle.mlt_base.specs.contracts.still.Still.{the_row}
use Rattle.mlt_base.specs.Still.{Picture}

-- the pixels are the last ones written through r
abbrev pub LendsPixels : MutBor Picture → MutBor (List ℕ) → Fml
LendsPixels l r =
    Lends the_row (Array u8 0) l r (λ ws. record { width = l.now.width; height = l.now.height; pixels = refill (length l.now.pixels) l.now.pixels ws })
