use Rattle.std.proofs.Common.{◌≡◌, map}
use Rattle.mlt_tree.specs.Units.{attached_within}
use Rattle.mlt_graph.proofs.pending.attached_all.Given as goal

-- the filters so far
abbrev pub invariant-loop-filter : goal.invariant-loop-filter
invariant-loop-filter l = l.all.items ≡ map (attached_within l.frames) l.yielded
