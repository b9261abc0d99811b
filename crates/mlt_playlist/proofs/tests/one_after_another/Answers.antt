use Rattle.std.proofs.Common.{drop, ap, arith}
use Rattle.std.proofs.lemmas.List.Sums.{sum_by-append, sum_by-take-drop}
use Rattle.mlt_tree.specs.Edits.{frames_in}
use Rattle.mlt_tree.specs.Ranges.{frames}
use Rattle.mlt_playlist.proofs.tests.one_after_another.Goals as goal

-- no more frames stand behind the first two entries than in the whole list
pub splice-requires-clause-short : goal.splice-requires-clause-short
splice-requires-clause-short c c' =
    let es = c'.split.new.self in
    omega (arith, c'.count-count.ensures.list.short, sum_by-take-drop frames es 2, sum_by-append frames c'.new.result (drop 2 es), ap frames_in c'.new.ensures)
