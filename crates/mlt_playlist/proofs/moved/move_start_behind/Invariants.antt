use Rattle.mlt_playlist.specs.Changed.{moved}
use Rattle.mlt_playlist.specs.Playlist.{IsIndexed}
use Rattle.mlt_playlist.proofs.moved.move_start_behind.Given as goal

-- the number is moved as far as this index
abbrev pub invariant-loop-index : goal.invariant-loop-index
invariant-loop-index l = IsIndexed (moved l.entries l.from l.index) l.starts
