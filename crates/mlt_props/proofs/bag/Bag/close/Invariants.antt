use Rattle.std.proofs.Common.{◌≡◌, ◌+◌, ◌≤◌, ◌++◌, length, reverse}
use Rattle.mlt_props.specs.Entries.{all_owned}
use Rattle.mlt_props.specs.Contents.{entries_of}
use Rattle.mlt_props.proofs.bag.Bag.close.Given as goal

-- the owned values that are left, the last entry first, are those that the bin lacks; each entry has a place
abbrev pub invariant-loop-name : goal.invariant-loop-name
invariant-loop-name g l =
    record {
      ended : g.B.Bin.ended l.bin ++ all_owned (entries_of (reverse l.entries.entries)) ≡ g.B.Bin.ended l.fn.bin ++ all_owned l.fn.self;
      places : g.B.Bin.free l.bin + length (g.B.Bin.ended l.bin) ≡ g.B.Bin.free l.fn.bin + length (g.B.Bin.ended l.fn.bin);
      room : g.B.Bin.free l.fn.bin + length l.entries.entries ≤ g.B.Bin.free l.bin + length l.fn.self;
    }

abbrev pub decreases-loop-name : goal.decreases-loop-name
decreases-loop-name g l = length l.entries.entries
