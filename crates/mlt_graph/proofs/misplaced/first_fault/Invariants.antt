use Rattle.std.proofs.Common.{◌≡◌, drop}
use Rattle.mlt_tree.specs.Units.{first_misplaced}
use Rattle.mlt_graph.proofs.misplaced.first_fault.Given as goal

-- none of those before is misplaced
abbrev pub invariant-loop-plant : goal.invariant-loop-plant
invariant-loop-plant l = first_misplaced l.tracks l.plant (drop l.plant l.plants) ≡ first_misplaced l.tracks 0 l.plants
