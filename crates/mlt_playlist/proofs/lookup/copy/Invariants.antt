use Rattle.std.proofs.Common.{◌≡◌, take}
use Rattle.mlt_playlist.proofs.lookup.copy.Given as goal

-- the entries so far
abbrev pub invariant-loop-entry : goal.invariant-loop-entry
invariant-loop-entry l = l.all.items ≡ take l.entry-index l.entries
