-- What a lease ends as, once a `&mut` into it has ended.
use Rattle.std.specs.Prelude.{ℕ, List, length}
use Rattle.std.specs.Borrow.{Fml, MutBor, Array, Lends, u8}
use Rattle.std.specs.List.{refill}
use Rattle.mlt_pool.specs.contracts.lease.Lease.{the_row}

-- the bytes are the last ones written through r
abbrev pub LendsBytes : MutBor (List ℕ) → MutBor (List ℕ) → Fml
LendsBytes l r = Lends the_row (Array u8 0) l r (λ ws. refill (length l.now) l.now ws)
