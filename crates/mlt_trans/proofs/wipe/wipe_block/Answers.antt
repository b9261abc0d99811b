use Rattle.std.proofs.Common.{◌≡◌, ℕ, ◌+◌, ◌-◌, ◌*◌, length, get_or, drop, ap, ◌∙◌, arith, length-take, length-drop}
use borrow.Rule.Slice.PartMut.{put_mid}
use Rattle.std.proofs.lemmas.List.{get_or-take, get_or-drop}
use Rattle.mlt_slice.proofs.Parts.{put_inside}
use Rattle.mlt_trans.proofs.Wiped.{all_turned, none_turned}
use Rattle.mlt_trans.proofs.wipe.wipe_block.Goals as goal

pub returns-then-least-eq-WHOLE-clause-done : goal.returns-then-least-eq-WHOLE-clause-done
returns-then-least-eq-WHOLE-clause-done c = λ k low high.
    let row = c.args.row.now in let other = c.args.other.now in let at : ℕ = c.args.from * 4 in let found = c.look_up.new.found in
    let count : ℕ = at + length found * 4 - at in let copied = c.copy_from_slice.new.self in
    let j : ℕ = k - at in
    let place : k ≡ at + j = omega arith in
    let long : length copied ≡ count = ap length c.copy_from_slice.ensures.after ∙ simp (length-take, length-drop) (omega arith) in
    ap (λ n. get_or (put_mid at count row copied) n 0) place
    ∙ put_inside row copied at count j (omega arith) long (omega arith)
    ∙ ap (λ l. get_or l j 0) c.copy_from_slice.ensures.after
    ∙ get_or-take count (drop at other) j 0 (omega arith)
    ∙ get_or-drop at other j 0
    ∙ ap (λ n. get_or other n 0) (omega arith)
    ∙ all_turned c.args.shares.now.softness c.args.shares.now.q c.args.map.now found c.args.from (length c.args.found.now) k c.look_up.ensures.each low high (get_or row k 0) (get_or other k 0)
    c.least_and_greatest-least.result.0 c.look_up.ensures.most (λ i lt. c.least_and_greatest-least.ensures.least i (omega arith)) c.if-least-eq-WHOLE.true

pub returns-else-greatest-gt0-clause-done : goal.returns-else-greatest-gt0-clause-done
returns-else-greatest-gt0-clause-done c = λ k low high.
    none_turned c.args.shares.now.softness c.args.shares.now.q c.args.map.now c.look_up.new.found c.args.from (length c.args.found.now) k c.look_up.ensures.each low high (get_or c.args.row.now k 0) (get_or c.args.other.now k 0)
    c.least_and_greatest-least.result.1 (λ i lt. c.least_and_greatest-least.ensures.greatest i (omega arith)) (omega arith)
