use Rattle.std.proofs.Common.{◌≡◌, ◌⊎◌, ℕ, ◌+◌, ◌*◌, ◌<◌, ◌≤◌, get_or}
use Rattle.mlt_kernel.specs.Alphas.{HasAlpha}
use Rattle.mlt_kernel.proofs.pixel.alphas.Given as goal

-- no alpha before this one is less than the least or greater than the greatest
abbrev pub invariant-loop-p : goal.invariant-loop-p
invariant-loop-p l =
    record {
      least : (q : ℕ) → l.from ≤ q → q < l.p → l.least ≤ get_or l.xs (q * 4 + 3) 0;
      greatest : (q : ℕ) → l.from ≤ q → q < l.p → get_or l.xs (q * 4 + 3) 0 ≤ l.greatest;
      least_there : (l.least ≡ 255) ⊎ HasAlpha l.xs l.from l.p l.least;
      greatest_there : (l.greatest ≡ 0) ⊎ HasAlpha l.xs l.from l.p l.greatest;
    }
