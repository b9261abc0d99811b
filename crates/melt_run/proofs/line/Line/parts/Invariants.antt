use Rattle.std.proofs.Common.{◌≡◌, ◌≤◌, ◌+◌, ◌*◌, ◌++◌, length, map, take}
use Rattle.mlt_tree.specs.Lines.{text_of}
use Rattle.melt_run.specs.LineParts.{part_view}
use Rattle.melt_run.proofs.line.Line.parts.Given as goal

-- the parts so far are written, in at most 40 bytes each
abbrev pub invariant-loop-part : goal.invariant-loop-part
invariant-loop-part l = record {
  written : l.self ≡ l.fn.self ++ text_of (map part_view (take l.part-index l.parts));
  short : length l.self ≤ length l.fn.self + l.part-index * 40;
}
