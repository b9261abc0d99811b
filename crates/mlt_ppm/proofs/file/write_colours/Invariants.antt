use Rattle.std.proofs.Common.{◌≡◌, ◌*◌, ◌++◌, map}
use Rattle.std.specs.List.{range_with_len}
use Rattle.mlt_ppm.specs.Written.{colour}
use Rattle.mlt_ppm.proofs.file.write_colours.Given as goal

-- the colours of the pixels so far
abbrev pub invariant-loop-p : goal.invariant-loop-p
invariant-loop-p l = l.file.items ≡ l.initial.file.items ++ map (colour l.pixels) (range_with_len 0 (l.p * 3))
