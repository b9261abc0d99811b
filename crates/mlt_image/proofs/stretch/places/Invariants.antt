use Rattle.std.proofs.Common.{◌≡◌, ℕ, ◌<◌, length, get_or}
use Rattle.mlt_base.specs.Fitting.{along}
use Rattle.mlt_image.proofs.stretch.places.Given as goal

-- the places before this one are found
abbrev pub invariant-loop-at : goal.invariant-loop-at
invariant-loop-at l = (k : ℕ) → k < l.at → get_or l.out k 0 ≡ along l.pixels (length l.fn.out) k
