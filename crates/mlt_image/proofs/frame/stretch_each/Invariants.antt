use Rattle.std.proofs.Common.{◌≡◌, ℕ, ◌+◌, ◌*◌, ◌<◌, get_or}
use Rattle.mlt_base.specs.Fitting.{inset, framed}
use Rattle.mlt_image.specs.Kept.{AreRows}
use Rattle.mlt_image.proofs.frame.stretch_each.Given as goal

-- the rows before this one are written, and those that are kept are rows of the source
abbrev pub invariant-loop-v : goal.invariant-loop-v
invariant-loop-v l =
    record {
      kept : AreRows l.src.pixels l.src.width l.columns l.kept;
      done : (k : ℕ) → k < l.v * l.bytes → get_or l.rows k 0 ≡ framed l.src l.frame.width l.frame.height l.frame.wide l.frame.high (inset l.frame.height l.frame.high * (l.frame.width * 4) + k);
    }
