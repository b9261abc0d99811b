use Rattle.std.proofs.Common.{◌≡◌, drop, find}
use Rattle.mlt_tree.specs.Table.{is_named}
use Rattle.melt_words.proofs.options.row_named.Given as goal

-- the rows so far have another name
abbrev pub invariant-loop-row : goal.invariant-loop-row
invariant-loop-row l = find (is_named l.word) (drop l.row-index l.rows) ≡ find (is_named l.word) l.rows
