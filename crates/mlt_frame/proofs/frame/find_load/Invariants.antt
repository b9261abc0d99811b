use Rattle.std.proofs.Common.{◌≡◌, drop, slice_get}
use Rattle.mlt_frame.specs.Loads.{loads}
use Rattle.mlt_frame.proofs.frame.find_load.Given as goal

-- the load is that of this index in the rest
abbrev pub invariant-loop-op : goal.invariant-loop-op
invariant-loop-op l = slice_get (loads (drop l.op-index l.ops)) l.left ≡ slice_get (loads l.ops) l.index
