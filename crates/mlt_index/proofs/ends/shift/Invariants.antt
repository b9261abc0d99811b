use Rattle.std.proofs.Common.{◌≡◌, map, take, drop}
use Rattle.mlt_index.specs.Ends.{moved}
use Rattle.mlt_index.proofs.ends.shift.Given as goal

-- the first ends are moved, and the others are as they were
abbrev pub invariant-loop-end : goal.invariant-loop-end
invariant-loop-end l =
    record {
      moved : take l.end-index l.ends ≡ map (moved l.from l.to) (take l.end-index l.initial.ends);
      others : drop l.end-index l.ends ≡ drop l.end-index l.initial.ends;
    }
