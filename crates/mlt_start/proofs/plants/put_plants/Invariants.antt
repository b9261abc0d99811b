use Rattle.std.proofs.Common.{◌≤◌, ◌+◌, length, take}
use Rattle.std.specs.List.{flat_map}
use Rattle.mlt_start.specs.Asked.{medium_of}
use Rattle.mlt_start.specs.Code.{plant_ops}
use Rattle.mlt_start.specs.Pushed.{IsAbove}
use Rattle.mlt_start.proofs.plants.put_plants.Given as goal

-- the plants so far are pushed, and there is room for the others
abbrev pub invariant-loop-index : goal.invariant-loop-index
invariant-loop-index l = record {
  above : IsAbove (flat_map (plant_ops (medium_of l.asked) l.at l.count) (take l.index l.plants)) l.initial.ops l.ops;
  spare : length l.plants ≤ l.ops.spare + l.index;
}
