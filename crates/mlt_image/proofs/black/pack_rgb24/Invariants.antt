use Rattle.std.proofs.Common.{◌≡◌, ℕ, ◌-◌, ◌*◌, ◌<◌, ◌≤◌, get_or}
use Rattle.mlt_image.specs.Packed.{packed}
use Rattle.mlt_image.proofs.black.pack_rgb24.Given as goal

-- the blocks before this one are packed
abbrev pub invariant-loop-from : goal.invariant-loop-from
invariant-loop-from l =
    record {
      within : l.from ≤ l.pixels;
      done : (k : ℕ) → k < l.from * 3 → get_or l.dst k 0 ≡ packed l.src k;
    }

abbrev pub decreases-loop-from : goal.decreases-loop-from
decreases-loop-from l = l.pixels - l.from
