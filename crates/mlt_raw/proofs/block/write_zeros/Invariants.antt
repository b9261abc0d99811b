use Rattle.std.proofs.Common.{◌≡◌, ◌-◌, ◌≤◌, ◌++◌, Some, None, replicate}
use Rattle.mlt_raw.proofs.block.write_zeros.Given as goal

-- the places up to the index hold 0, and the others are empty
abbrev pub invariant-loop-index : goal.invariant-loop-index
invariant-loop-index l =
    (l.cells.at ≡ l.initial.cells.at) × (l.index ≤ l.size)
    × (l.cells.slots ≡ replicate l.index (Some 0) ++ replicate (l.size - l.index) None)
