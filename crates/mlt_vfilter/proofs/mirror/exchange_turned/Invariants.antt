use Rattle.std.proofs.Common.{◌≡◌, ℕ, ◌-◌, ◌*◌, ◌<◌, ◌≤◌, get_or}
use Rattle.mlt_vfilter.specs.Places.{turned}
use Rattle.mlt_vfilter.proofs.mirror.exchange_turned.Given as goal

-- the pixels before this one, and as many at the other end, are exchanged, the others as they were
abbrev pub invariant-loop-p : goal.invariant-loop-p
invariant-loop-p l =
    record {
      front : (k : ℕ) → 0 ≤ k → k < l.p * 4 → get_or l.front k 0 ≡ turned l.pixels l.fn.back k;
      front_left : (k : ℕ) → l.p * 4 ≤ k → get_or l.front k 0 ≡ get_or l.fn.front k 0;
      back : (k : ℕ) → (l.pixels - l.p) * 4 ≤ k → k < l.pixels * 4 → get_or l.back k 0 ≡ turned l.pixels l.fn.front k;
      back_left : (k : ℕ) → k < (l.pixels - l.p) * 4 → get_or l.back k 0 ≡ get_or l.fn.back k 0;
    }
