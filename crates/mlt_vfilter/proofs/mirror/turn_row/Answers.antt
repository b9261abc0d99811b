use Rattle.std.proofs.Common.{ℕ, ◌+◌, ◌-◌, ◌*◌, ◌/◌, ◌++◌, length, get_or, ap, ◌∙◌, arith, length-append}
use Rattle.std.proofs.lemmas.List.{get_or-take, get_or-drop}
use Rattle.std.proofs.lemmas.List.FromFn.{fill_by_all}
use Rattle.mlt_vfilter.specs.Places.{turned, turned_row}
use Rattle.mlt_vfilter.proofs.Turned.{row_turned}
use Rattle.mlt_vfilter.proofs.mirror.turn_row.Goals as goal

pub returns : goal.returns
returns c =
    let old = c.args.row.now in let half : ℕ = length old / 8 * 4 in
    let first = c.split_at_mut-front in let second = c.split_at_mut-back in
    let front = first.result.0.now in let rest = first.result.1.now in let middle = second.result.0.now in let back = second.result.1.now in
    let more : ℕ = length rest - half in let is = c.exchange_turned.ensures in
    fill_by_all (turned_row old) (c.exchange_turned.new.front ++ (middle ++ c.exchange_turned.new.back)) (length old) 0 (simp length-append (omega arith))
    (λ k lt. row_turned old front middle back c.exchange_turned.new.front c.exchange_turned.new.back half c.requires (omega arith)
    (λ j below. ap (λ l. get_or l j 0) first.ensures.front ∙ get_or-take half old j 0 below)
    (λ j below. ap (λ l. get_or l j 0) second.ensures.front ∙ get_or-take more rest j 0 (omega arith) ∙ ap (λ l. get_or l j 0) first.ensures.back ∙ get_or-drop half old j 0)
    (λ j below. ap (λ l. get_or l j 0) second.ensures.back ∙ get_or-drop more rest j 0 ∙ ap (λ l. get_or l (more + j) 0) first.ensures.back ∙ get_or-drop half old (more + j) 0 ∙ ap (λ i. get_or old i 0) (omega arith))
    (omega arith) (omega arith)
    (λ j below. is.front j (omega arith) ∙ ap (λ n. turned (n / 4) back j) first.ensures.front_len)
    (λ j below. is.back j (omega arith) ∙ ap (λ n. turned (n / 4) front j) first.ensures.front_len)
    k lt)
