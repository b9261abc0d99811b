use Rattle.std.proofs.Common.{◌≡◌, ℕ, ◌-◌, ◌*◌, ◌<◌, ◌≤◌, length, get_or}
use Rattle.mlt_base.specs.Ppm.{pixel_byte}
use Rattle.mlt_ppm.proofs.raster.pixels.Given as goal

-- the bytes of the pixels so far
abbrev pub invariant-loop-from : goal.invariant-loop-from
invariant-loop-from l = record {
  within : l.from ≤ l.count;
  long : length l.pixels.items ≡ l.from * 4;
  done : (k : ℕ) → k < l.from * 4 → get_or l.pixels.items k 0 ≡ pixel_byte l.scale.maxval l.raster k;
}

abbrev pub decreases-loop-from : goal.decreases-loop-from
decreases-loop-from l = l.count - l.from
