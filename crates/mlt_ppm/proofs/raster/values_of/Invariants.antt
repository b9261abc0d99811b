use Rattle.std.proofs.Common.{◌≡◌, ℕ, ◌<◌, length, get_or}
use Rattle.mlt_base.specs.Ppm.{eight_bits}
use Rattle.mlt_ppm.proofs.raster.values_of.Given as goal

-- the bytes of the samples so far
abbrev pub invariant-loop-v : goal.invariant-loop-v
invariant-loop-v l = (length l.values ≡ 256) × ((k : ℕ) → k < l.v → get_or l.values k 0 ≡ eight_bits l.maxval k)
