use Rattle.std.proofs.Common.{◌≡◌, ℕ, ◌<◌, get_or}
use Rattle.mlt_base.specs.Fitting.{down}
use Rattle.mlt_image.proofs.stretch.down.Given as goal

-- the bytes before this one are mixed
abbrev pub invariant-loop-k : goal.invariant-loop-k
invariant-loop-k l = (j : ℕ) → j < l.k → get_or l.out j 0 ≡ down l.share (get_or l.top j 0) (get_or l.bottom j 0)
