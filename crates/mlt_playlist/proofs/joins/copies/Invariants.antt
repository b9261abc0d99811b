use Rattle.std.proofs.Common.{◌≡◌, replicate}
use Rattle.mlt_playlist.proofs.joins.copies.Given as goal

-- the copies so far
abbrev pub invariant-loop-copy : goal.invariant-loop-copy
invariant-loop-copy l = l.all.items ≡ replicate l._copy l.entry
