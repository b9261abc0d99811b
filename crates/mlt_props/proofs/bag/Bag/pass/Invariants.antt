use Rattle.std.proofs.Common.{◌≡◌, ◌+◌, ◌≤◌, length}
use Rattle.mlt_props.specs.Entries.{all_owned, passed}
use Rattle.mlt_props.specs.Contents.{entries_of}
use Rattle.mlt_props.proofs.PassLemmas.{SetsUntil}
use Rattle.mlt_props.proofs.bag.Bag.pass.Given as goal

-- the settings before this property are made, and what the bag still owns has places
abbrev pub invariant-loop-name : goal.invariant-loop-name
invariant-loop-name g l =
    record {
      sets : SetsUntil (passed l.prefix l.from) (passed l.prefix (entries_of l.name-iterator)) l.fn.self l.self (g.B.Bin.ended l.fn.bin) (g.B.Bin.ended l.bin);
      places : g.B.Bin.free l.bin + length (g.B.Bin.ended l.bin) ≡ g.B.Bin.free l.fn.bin + length (g.B.Bin.ended l.fn.bin);
      room : g.B.Bin.free l.fn.bin + length (all_owned l.self) ≤ g.B.Bin.free l.bin + length (all_owned l.fn.self);
      grows : length l.self + length l.name-iterator ≤ length l.fn.self + length l.fn.from;
    }
