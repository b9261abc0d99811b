-- The parts of a line, as they are written.
use Rattle.std.specs.Prelude.{◌≤◌, length}
use Rattle.mlt_tree.specs.Lines as line
use Rattle.melt_run.specs.declared.line.LinePart.{LinePart}
use Rattle.melt_run.specs.declared.line.LinePart.TheVariants.{Words, Count, Number}

abbrev pub part_view : LinePart → line.LinePart
part_view (Words text) = line.Words text.now
part_view (Count n) = line.Count n
part_view (Number n) = line.Number n

-- at most 40 bytes
abbrev pub FitsLine : LinePart → Type 0
FitsLine (Words text) = length text.now ≤ 40
FitsLine (Count n) = Unit {0}
FitsLine (Number n) = Unit {0}
