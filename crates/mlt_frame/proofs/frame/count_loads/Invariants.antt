use Rattle.std.proofs.Common.{◌≡◌, ◌+◌, ◌≤◌, length, drop}
use Rattle.mlt_frame.specs.Loads.{loads}
use Rattle.mlt_frame.proofs.frame.count_loads.Given as goal

-- the loads so far, and those of the rest
abbrev pub invariant-loop-op : goal.invariant-loop-op
invariant-loop-op l = record {
  counted : l.count + length (loads (drop l.op-index l.ops)) ≡ length (loads l.ops);
  few : l.count ≤ l.op-index;
}
