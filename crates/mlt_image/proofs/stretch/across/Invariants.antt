use Rattle.std.proofs.Common.{◌≡◌, ℕ, ◌*◌, ◌<◌, get_or}
use Rattle.mlt_image.specs.Kept.{across_at}
use Rattle.mlt_image.proofs.stretch.across.Given as goal

-- the values at the places before this one are mixed
abbrev pub invariant-loop-u : goal.invariant-loop-u
invariant-loop-u l = (k : ℕ) → k < l.u * 4 → get_or l.out k 0 ≡ across_at l.pixels l.width l.places l.y k
