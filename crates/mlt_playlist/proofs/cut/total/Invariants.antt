use Rattle.std.proofs.Common.{◌≡◌, ◌≤◌, ◌*◌, ◌^◌, take}
use Rattle.mlt_tree.specs.Edits.{frames_in}
use Rattle.mlt_playlist.proofs.cut.total.Given as goal

-- the frames so far
abbrev pub invariant-loop-entry : goal.invariant-loop-entry
invariant-loop-entry l =
    record { so_far : l.all ≡ frames_in (take l.entry-index l.entries); most : l.all ≤ l.entry-index * 2 ^ 32 }
