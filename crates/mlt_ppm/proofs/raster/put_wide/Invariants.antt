use Rattle.std.proofs.Common.{◌≡◌, ℕ, ◌+◌, ◌*◌, ◌<◌, length, get_or}
use Rattle.mlt_base.specs.Ppm.{pixel_byte}
use Rattle.mlt_ppm.proofs.raster.put_wide.Given as goal

-- the pixels so far
abbrev pub invariant-loop-p : goal.invariant-loop-p
invariant-loop-p l = record {
  long : length l.block ≡ length l.initial.block;
  done : (k : ℕ) → k < l.p * 4 → get_or l.block k 0 ≡ pixel_byte l.scale.maxval l.raster (l.from * 4 + k);
}
