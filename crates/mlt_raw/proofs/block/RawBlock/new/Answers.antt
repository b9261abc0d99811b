use Rattle.std.proofs.Common.{ap, ◌∙◌}
use Rattle.mlt_raw.specs.Places.{somes}
use Rattle.mlt_raw.proofs.Zeros.{somes-replicate}
use Rattle.mlt_raw.proofs.Whole.{whole_new}
use Rattle.mlt_raw.proofs.block.RawBlock.new.Goals as goal

pub invariant_of-result : goal.invariant_of-result
invariant_of-result c =
    let made = c.in_ok-base in let zeros = c.write_zeros.ensures in
    whole_new made.base c.args.size c.write_zeros.new.cells made.deed c.args.alloc 0 (zeros.at ∙ made.ensures.0) made.ensures.2 made.ensures.3 made.ensures.4 zeros.zeros c.requires.at_most

pub returns : goal.returns
returns c = ap somes c.write_zeros.ensures.zeros ∙ somes-replicate c.args.size 0
