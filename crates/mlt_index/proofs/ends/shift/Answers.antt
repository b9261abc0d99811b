use Rattle.std.proofs.Common.{◌+◌, ◌∙◌, arith}
use Rattle.std.proofs.lemmas.List.{drop-set-lt}
use Rattle.std.proofs.lemmas.Grind.{drop_more_same}
use Rattle.std.proofs.lemmas.List.Elements.{All-get_or}
use Rattle.mlt_index.specs.Ends.{IsMovable}
use Rattle.mlt_index.proofs.EndsOf.{same-first, shifted-more}
use Rattle.mlt_index.proofs.ends.shift.Goals as goal

pub overflow_sub-end : goal.overflow_sub-end
overflow_sub-end c =
    let i = c.loop-end.end-index in
    let movable = All-get_or (IsMovable c.args.from c.args.to) c.args.ends.now i 0 (omega arith) c.requires in
    omega (arith, same-first i c.loop-end.ends c.args.ends.now c.loop-end.invariant.others, movable)

pub overflow_add-end : goal.overflow_add-end
overflow_add-end c =
    let i = c.loop-end.end-index in
    let movable = All-get_or (IsMovable c.args.from c.args.to) c.args.ends.now i 0 (omega arith) c.requires in
    omega (arith, same-first i c.loop-end.ends c.args.ends.now c.loop-end.invariant.others, movable)

pub loop-end-preserved : goal.loop-end-preserved
loop-end-preserved c =
    let i = c.loop-end.end-index in
    let same = same-first i c.loop-end.ends c.args.ends.now c.loop-end.invariant.others in
    record {
      moved = shifted-more c.args.from c.args.to i c.loop-end.ends c.args.ends.now (omega arith) (omega arith) c.loop-end.invariant.moved same;
      others = drop-set-lt (i + 1) c.loop-end.ends i _ (omega arith) ∙ drop_more_same c.loop-end.ends c.args.ends.now i c.loop-end.invariant.others;
    }
