use Rattle.std.proofs.Common.{◌≡◌, ℕ, ◌+◌, ◌-◌, ◌*◌, ◌<◌, ◌≤◌, ◌⊎◌, get_or}
use Rattle.mlt_vfilter.proofs.mirror.turn_rows.Given as goal

-- the rows before this one, and as many at the other end, are exchanged, the others as they were
abbrev pub invariant-loop-y : goal.invariant-loop-y
invariant-loop-y l =
    record {
      done : (r i : ℕ) → i < l.row_bytes → r < l.rows → (r < l.y) ⊎ (l.rows ≤ r + l.y) → get_or l.picture (r * l.row_bytes + i) 0 ≡ get_or l.fn.picture ((l.rows - 1 - r) * l.row_bytes + i) 0;
      left : (r i : ℕ) → i < l.row_bytes → l.y ≤ r → r + l.y < l.rows → get_or l.picture (r * l.row_bytes + i) 0 ≡ get_or l.fn.picture (r * l.row_bytes + i) 0;
    }
