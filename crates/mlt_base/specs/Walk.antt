-- Numbers of frames, one after another.
use Rattle.std.specs.Prelude.{ℕ, ◌+◌, ◌-◌, nat_lt, if◌then◌else◌, List, [], ◌∷◌, Option, None, Some}
use Rattle.std.specs.Option.{option_map}

-- the index of the number that a position falls into, and the place in it; none past the end
abbrev pub walk : List ℕ → ℕ → Option (ℕ × ℕ)
walk [] at = None
walk (n ∷ ns) at =
    if nat_lt at n then Some (0, at) else option_map (λ found. (found.0 + 1, found.1)) (walk ns (at - n))
