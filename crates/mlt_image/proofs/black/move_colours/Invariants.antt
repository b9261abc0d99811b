use Rattle.std.proofs.Common.{◌≡◌, ℕ, ◌-◌, ◌*◌, ◌%◌, ◌<◌, ◌≤◌, get_or, length}
use Rattle.mlt_image.proofs.Lanes.{colour, AreCommon}
use Rattle.mlt_image.proofs.black.move_colours.Given as goal

-- the colours of the pixels from the first to before this one are moved, and the bytes before them are as they were
abbrev pub invariant-loop-p : goal.invariant-loop-p
invariant-loop-p l =
    record {
      from : l.from ≤ l.p;
      within : l.p ≤ l.to;
      fours : (l.p - l.from) % 4 ≡ 0;
      long : length l.common ≡ 16;
      common : AreCommon l.src l.from l.p l.common;
      done : (k : ℕ) → l.from * 3 ≤ k → k < l.p * 3 → get_or l.dst k 0 ≡ colour l.src k;
      before : (k : ℕ) → k < l.from * 3 → get_or l.dst k 0 ≡ get_or l.fn.dst k 0;
    }

abbrev pub decreases-loop-p : goal.decreases-loop-p
decreases-loop-p l = l.to - l.p
