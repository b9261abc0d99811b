use Rattle.std.proofs.Common.{◌≤◌, ◌+◌, length, take}
use Rattle.std.specs.List.{flat_map}
use Rattle.mlt_start.specs.Code.{filter_ops}
use Rattle.mlt_start.specs.Pushed.{IsAbove}
use Rattle.mlt_start.proofs.push.put_filters.Given as goal

-- the filters so far are pushed, and there is room for the others
abbrev pub invariant-loop-index : goal.invariant-loop-index
invariant-loop-index l = record {
  above : IsAbove (flat_map (filter_ops l.at) (take l.index l.filters)) l.initial.ops l.ops;
  spare : length l.filters ≤ l.ops.spare + l.index;
}
