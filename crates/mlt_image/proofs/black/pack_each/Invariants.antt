use Rattle.std.proofs.Common.{◌≡◌, ℕ, ◌*◌, ◌<◌, ◌≤◌, get_or}
use Rattle.mlt_image.specs.Packed.{packed}
use Rattle.mlt_image.proofs.black.pack_each.Given as goal

-- the pixels from the first to before this one are packed, and the bytes before them are as they were
abbrev pub invariant-loop-p : goal.invariant-loop-p
invariant-loop-p l =
    record {
      done : (k : ℕ) → l.from * 3 ≤ k → k < l.p * 3 → get_or l.dst k 0 ≡ packed l.src k;
      before : (k : ℕ) → k < l.from * 3 → get_or l.dst k 0 ≡ get_or l.fn.dst k 0;
    }
