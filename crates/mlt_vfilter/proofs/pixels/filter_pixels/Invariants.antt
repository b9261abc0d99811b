use Rattle.std.proofs.Common.{◌≡◌, ℕ, ◌*◌, ◌<◌, ◌≤◌, get_or}
use Rattle.mlt_vfilter.specs.Pixels.{pixelwise}
use Rattle.mlt_vfilter.proofs.pixels.filter_pixels.Given as goal

-- the pixels before this one are made, the others as they were
abbrev pub invariant-loop-p : goal.invariant-loop-p
invariant-loop-p g l =
    record {
      done : (k : ℕ) → 0 ≤ k → k < l.p * 4 → get_or l.row k 0 ≡ pixelwise (g.F.PixelFilter.makes l.filter) l.fn.row k;
      left : (k : ℕ) → l.p * 4 ≤ k → get_or l.row k 0 ≡ get_or l.fn.row k 0;
    }
