use Rattle.std.proofs.Common.{◌≡◌, ◌+◌, length, take, sum}
use Rattle.mlt_index.specs.Starts.{ends_of}
use Rattle.mlt_index.proofs.ends.write.Given as goal

-- the ends of the first numbers are written
abbrev pub invariant-loop-index : goal.invariant-loop-index
invariant-loop-index l =
    record {
      written : take l.index l.ends ≡ ends_of l.start (take l.index l.frames);
      last_is : l.last ≡ l.start + sum (take l.index l.frames);
      len : length l.ends ≡ length l.initial.ends;
    }
