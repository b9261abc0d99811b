use Rattle.std.proofs.Common.{◌+◌, ◌-◌, All, length, drop, sym, subst, ◌∙◌}
use borrow.Rule.Slice.PartMut.{put_mid}
use Rattle.std.proofs.lemmas.List.{take_rest}
use Rattle.mlt_index.specs.Ends.{IsMovable}
use Rattle.mlt_index.proofs.Parts.{both_parts, part_behind}
use Rattle.mlt_index.proofs.ends.rewrite.Goals as goal

pub shift-requires : goal.shift-requires
shift-requires c =
    let es = c.args.ends.now in
    let frames = c.args.frames.now in
    let next = c.args.at + length frames in
    let rest = take_rest (put_mid c.args.at (next - c.args.at) es c.write-end.new.ends) next ∙ part_behind es c.write-end.new.ends frames c.args.at c.args.start c.requires.range c.write-end.ensures.ends in
    subst (All (IsMovable c.args.behind c.write-end.result)) (sym rest) (subst (λ end. All (IsMovable c.args.behind end) (drop next es)) (sym c.write-end.ensures.last) c.requires.movable)

pub returns : goal.returns
returns c =
    both_parts c.args.ends.now c.write-end.new.ends c.shift.new.ends c.args.frames.now c.args.at c.args.start c.args.behind c.write-end.result c.requires.range c.write-end.ensures.ends c.write-end.ensures.last c.shift.ensures
