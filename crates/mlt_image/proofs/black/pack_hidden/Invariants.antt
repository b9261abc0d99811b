use Rattle.std.proofs.Common.{◌≡◌, ℕ, ◌*◌, ◌<◌, ◌≤◌, get_or}
use Rattle.mlt_image.specs.Packed.{packed}
use Rattle.mlt_image.proofs.black.pack_hidden.Given as goal

-- the bytes from the first to before this one are packed, and those before them are as they were
abbrev pub invariant-loop-k : goal.invariant-loop-k
invariant-loop-k l =
    record {
      done : (k : ℕ) → l.from * 3 ≤ k → k < l.k → get_or l.dst k 0 ≡ packed l._src k;
      before : (k : ℕ) → k < l.from * 3 → get_or l.dst k 0 ≡ get_or l.fn.dst k 0;
    }
