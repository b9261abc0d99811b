use Rattle.std.proofs.Common.{◌≡◌, map, take}
use Rattle.mlt_tree.specs.Ranges.{frames}
use Rattle.mlt_playlist.proofs.index.frames_of_each.Given as goal

-- the numbers of the entries so far
abbrev pub invariant-loop-entry : goal.invariant-loop-entry
invariant-loop-entry l = l.each.items ≡ map frames (take l.entry-index l.entries)
