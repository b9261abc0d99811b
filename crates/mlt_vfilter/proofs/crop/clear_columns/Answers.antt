use Rattle.std.proofs.Common.{◌-◌, ◌*◌, ◌/◌, ◌++◌, length, get_or, ap, ◌∙◌, arith, length-append}
use Rattle.std.proofs.lemmas.List.{get_or-take, get_or-drop}
use Rattle.std.proofs.lemmas.List.FromFn.{fill_by_all}
use Rattle.mlt_vfilter.specs.Places.{cut_columns}
use Rattle.mlt_vfilter.proofs.Cut.{columns_cut, all_cut}
use Rattle.mlt_vfilter.proofs.crop.clear_columns.Goals as goal

pub returns-then-left-kept : goal.returns-then-left-kept
returns-then-left-kept c =
    let old = c.args.row.now in let left = c.args.left in let right = c.args.right in let kept = c.saturating_sub-kept.result in
    let first = c.split_at_mut-front in let second = c.split_at_mut-back in
    let rest = first.result.1.now in let middle = second.result.0.now in
    fill_by_all (cut_columns left right old) (c.clear.new.bytes ++ (middle ++ c.clear-then-left-kept.new.bytes)) (length old) 0 (simp length-append (omega arith))
    (λ k lt. columns_cut left right old c.clear.new.bytes middle c.clear-then-left-kept.new.bytes c.requires (omega arith) (omega arith) (omega arith) c.clear.ensures c.clear-then-left-kept.ensures
    (λ j below. ap (λ l. get_or l j 0) second.ensures.front ∙ get_or-take ((kept - left) * 4) rest j 0 (omega arith) ∙ ap (λ l. get_or l j 0) first.ensures.back ∙ get_or-drop (left * 4) old j 0)
    k)

pub returns-else-left-kept : goal.returns-else-left-kept
returns-else-left-kept c =
    let old = c.args.row.now in
    fill_by_all (cut_columns c.args.left c.args.right old) c.clear-else-left-kept.new.bytes (length old) 0 (omega arith)
    (λ k lt. c.clear-else-left-kept.ensures k ∙ all_cut c.args.left c.args.right (length old / 4) k (get_or old k 0) (omega arith))
