-- What a block ends as, once a `&mut` into it has ended.
use Rattle.std.specs.Prelude.{ℕ, List, ◌++◌, length, take, drop}
use Rattle.std.specs.Borrow.{Fml, MutBor, Array, Lends, u8}
use Rattle.std.specs.List.{refill}
use Rattle.mlt_raw.specs.contracts.block.RawBlock.{the_row}

-- the bytes are the last ones written through r
abbrev pub LendsBytes : MutBor (List ℕ) → MutBor (List ℕ) → Fml
LendsBytes b r = Lends the_row (Array u8 0) b r (λ ws. refill (length b.now) b.now ws)

-- the first len bytes are the last ones written through r, and the others are as they were
abbrev pub LendsFirst : MutBor (List ℕ) → ℕ → MutBor (List ℕ) → Fml
LendsFirst b len r = Lends the_row (Array u8 0) b r (λ ws. refill len (take len b.now) ws ++ drop len b.now)
