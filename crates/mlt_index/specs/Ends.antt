-- Ends that are written and moved.
use Rattle.std.specs.Prelude.{ℕ, ◌+◌, ◌-◌, ◌^◌, ◌≤◌, ◌<◌, List, ◌++◌, length, take, drop, map, sum}
use Rattle.mlt_index.specs.Starts.{ends_of}

-- an end as far behind one place as it was behind another
abbrev pub moved : (from to end : ℕ) → ℕ
moved from to end = end - from + to

-- an end that can be so moved
abbrev pub IsMovable : (from to end : ℕ) → Type 0
IsMovable from to end = (from ≤ end) × (moved from to end < 2 ^ 31)

-- ends with those of some numbers from an index on, and the ones behind moved from behind a place to
-- behind these
abbrev pub rewritten : List ℕ → (at start : ℕ) → List ℕ → (behind : ℕ) → List ℕ
rewritten ends at start frames behind =
    take at ends ++ (ends_of start frames ++ map (moved behind (start + sum frames)) (drop (at + length frames) ends))
