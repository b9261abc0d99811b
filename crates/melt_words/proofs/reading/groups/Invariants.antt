use Rattle.std.proofs.Common.{◌≡◌, drop, map, string_bytes}
use Rattle.mlt_tree.specs.Words.{nothing_read, steps}
use Rattle.melt_words.specs.View.{state_of}
use Rattle.melt_words.proofs.reading.groups.Given as goal

-- the words that are left, read on from here, give what all words give
abbrev pub invariant-loop-index : goal.invariant-loop-index
invariant-loop-index l =
    steps l.index (drop l.index (map string_bytes l.words)) (state_of l.reading) ≡ steps 0 (map string_bytes l.words) nothing_read
