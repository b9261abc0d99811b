use Rattle.std.proofs.Common.{◌≡◌, map}
use Rattle.mlt_tree.specs.Units.{plant_within}
use Rattle.mlt_graph.proofs.pending.planted_all.Given as goal

-- the plants so far
abbrev pub invariant-loop-plant : goal.invariant-loop-plant
invariant-loop-plant l = l.all.items ≡ map (plant_within l.frames) l.yielded
